-- What the command answers: the relation between its words, the texts that it reads, and its
-- output. It goes by steps in order, and the first that ends it gives the output.
use Rattle.std.specs.Prelude.{◌≡◌, Option, Some, None}
use Rattle.xd_command.specs.declared.command.Command.{Command}
use Rattle.xd_command.specs.declared.command.Command.TheVariants.{Fits, Stream, Subtype, Minus, Verify, Upgrade, Least, Check, Types, Precise, Run, Sample}
use Rattle.xd_prefer.specs.Preferred.{Prefers}
use Rattle.xd_syntax.specs.May.{MayBind}
use Rattle.xd_command_steps.specs.Output.{Output, usage}
use Rattle.xd_command_steps.specs.Texts.{Holding}
use Rattle.xd_command_steps.specs.Programs.{AnswersOn}
use Rattle.xd_command_documents.specs.Fits.{AnswersFits}
use Rattle.xd_command_documents.specs.Stream.{AnswersStream}
use Rattle.xd_command_inclusions.specs.Subtype.{AnswersSubtype}
use Rattle.xd_command_inclusions.specs.Minus.{AnswersMinus}
use Rattle.xd_command_inclusions.specs.Verify.{AnswersVerify, AnswersUpgrade}
use Rattle.xd_command_documents.specs.Least.{AnswersLeast}
use Rattle.xd_command_programs.specs.Check.{AnswersCheck}
use Rattle.xd_command_programs.specs.Types.{AnswersTypes}
use Rattle.xd_command_programs.specs.Run.{AnswersRun}
use Rattle.xd_command_programs.specs.Sample.{AnswersSample}

-- What each command answers: on a program first the faults of its text, and then what stands under
-- the command's name.
abbrev pub Answers : Command → Holding → (rose : Type 0) → Output → Type 0
Answers (Fits file name document) holds rose =
    AnswersOn holds rose file (AnswersFits holds rose name document)
Answers (Stream file name document piece) holds rose =
    AnswersOn holds rose file (AnswersStream holds rose name document)
Answers (Subtype file left right) holds rose = AnswersOn holds rose file (AnswersSubtype left right)
Answers (Minus file left right) holds rose = AnswersOn holds rose file (AnswersMinus left right)
Answers (Verify file proof) holds rose = AnswersOn holds rose file (AnswersVerify holds rose proof)
Answers (Upgrade file proof) holds rose = AnswersOn holds rose file (AnswersUpgrade holds rose proof)
Answers (Least file name) holds rose = AnswersOn holds rose file (AnswersLeast name)
Answers (Check file) holds rose = AnswersOn holds rose file AnswersCheck
Answers (Types file) holds rose = AnswersOn holds rose file (AnswersTypes MayBind)
Answers (Precise file) holds rose = AnswersOn holds rose file (AnswersTypes Prefers)
Answers (Run file document fuel) holds rose = AnswersOn holds rose file (AnswersRun holds rose document fuel)
Answers (Sample persons) holds rose = AnswersSample persons

-- the same for words of any form
abbrev pub IsAnswer : Option Command → Holding → (rose : Type 0) → Output → Type 0
IsAnswer None holds rose o = o ≡ usage
IsAnswer (Some command) holds rose o = Answers command holds rose o
