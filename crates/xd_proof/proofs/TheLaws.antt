-- The laws of proof texts.
use Rattle.std.proofs.Common.{ℕ, sym, ◌∙◌}
use Rattle.xd_syntax.specs.Tree.{Tree}
use Rattle.xd_proof.specs.Lines.{SpellsNumber}
use Rattle.xd_proof.specs.TypeTexts.{SpellsType}
use Rattle.xd_proof.specs.Laws.{CourseReads, CourseGoesOn, CutsAreOne, FrontsBegin, FirstBadLineIsOne, FirstFormatBegins, TitlesBegin, WordsAreOne, CasesAreOne, PartsAreOne, ProofTextsAreOne}
use Rattle.xd_proof.proofs.CourseLemmas.{course_reads, course_begins}
use Rattle.xd_proof.proofs.BeginLemmas as begin
use Rattle.xd_proof.proofs.Unique.{case_one, part_one, number_one}
use Rattle.xd_proof.proofs.OneText.{type_one, text_one}
use Rattle.xd_proof.proofs.LineLemmas.{same_cut, front_begins, one_first, same_words}

pub course_reads_types : CourseReads Tree
course_reads_types ps bs = course_reads ps bs

pub course_reads_numbers : CourseReads ℕ
course_reads_numbers ps bs = course_reads ps bs

pub course_goes_on_types : CourseGoesOn Tree
course_goes_on_types x ps = course_begins x ps

pub course_goes_on_numbers : CourseGoesOn ℕ
course_goes_on_numbers x ps = course_begins x ps

pub cuts_are_one : CutsAreOne
cuts_are_one bytes ls ms l m c d = same_cut bytes ls ms l m c d

pub fronts_begin : FrontsBegin
fronts_begin known ls more b = front_begins (SpellsType known) ls more b

pub first_bad_line_is_one : FirstBadLineIsOne
first_bad_line_is_one known bytes n m b c = one_first (SpellsType known) bytes n m b c

pub first_format_begins : FirstFormatBegins
first_format_begins known bytes T s ls = begin.first_begins (SpellsType known) bytes T s ls

pub titles_begin : TitlesBegin
titles_begin known l ls b = begin.titles_begin (SpellsType known) l ls b

pub words_are_one : WordsAreOne
words_are_one line ws vs a b = same_words ws vs a.free b.free a.some b.some (sym a.whole ∙ b.whole)

pub cases_are_one : CasesAreOne
cases_are_one line c d s t = case_one line c d s t

pub proof_texts_are_one : ProofTextsAreOne
proof_texts_are_one known bytes gs hs p q = text_one known bytes gs hs p q

pub parts_are_one : PartsAreOne
parts_are_one = record {
  first = λ known line p q s t. part_one (SpellsType known) (SpellsType known) (type_one known) (type_one known) line p q s t;
  second = λ known line p q s t. part_one (SpellsType known) SpellsNumber (type_one known) number_one line p q s t;
}
