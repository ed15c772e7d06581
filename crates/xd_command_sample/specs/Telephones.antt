-- The telephone program: of persons in a row, the names and telephones of those that have one.
use Rattle.std.specs.Prelude.{ℕ, List, ◌++◌, codes}
use Rattle.xd_syntax.specs.Program.{ProgramTree}
use Rattle.xd_laws.specs.LineSamples.{telephones, all_clauses}

abbrev pub telephone_text : List ℕ
telephone_text =
    codes "type Name = name[String]\ntype Addr = addr[String]\ntype Tel = tel[String]\n"
    ++ (codes "fun main (val x as (Name,Addr,Tel?)*) : (Name,Tel)* =\n  match x with\n"
    ++ (codes "    val n as Name, Addr, val t as Tel, val rest -> n, t, main(rest)\n"
    ++ codes "  | Name, Addr, val rest -> main(rest)\n  | () -> ()\n"))

abbrev pub telephone_program : ProgramTree
telephone_program = telephones all_clauses
