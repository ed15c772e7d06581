-- The forms of the command's words.
use Rattle.std.specs.Prelude.{ℕ, ◌+◌, ◌^◌, List, [], ◌∷◌, Option, Some, None, codes, if◌then◌else◌, cond, ◌&&◌, nat_lt, option_map}
use Rattle.std.specs.Str.{bytes_eq}
use Rattle.std.specs.Str.Parse.{digits_value}
use Rattle.std.specs.Fmt.{decimal}
use Rattle.xd_command.specs.declared.command.Command.{Command}
use Rattle.xd_command.specs.declared.command.Command.TheVariants.{Fits, Stream, Subtype, Minus, Verify, Upgrade, Least, Check, Types, Precise, Run, Sample}
use Rattle.xd_command_documents.specs.Stream.{piece_limit}
use Rattle.xd_command_programs.specs.Sample.{sample_limit}

-- how many calls a run may make at most
abbrev pub fuel_limit : ℕ
fuel_limit = 10 ^ 7

-- how many it may make where its words say no number
abbrev pub default_fuel : ℕ
default_fuel = 10 ^ 6

-- the number, from 1 to the limit, whose decimal digits the word is, without a sign or a leading
-- zero
abbrev pub number_within : (limit : ℕ) → List ℕ → Option ℕ
number_within limit word =
    let n : ℕ = digits_value 10 word in
    cond (bytes_eq (decimal n) word && (nat_lt 0 n && nat_lt n (limit + 1))) (Some n) None

-- the commands of one word after their name: `check FILE`, `types FILE`, `precise FILE`, `sample N`
abbrev pub of_one : (command first : List ℕ) → Option Command
of_one command first =
    if bytes_eq command (codes "check") then Some (Check first)
    else (if bytes_eq command (codes "types") then Some (Types first)
    else (if bytes_eq command (codes "precise") then Some (Precise first)
    else (if bytes_eq command (codes "sample")
    then option_map (λ n. Sample n) (number_within sample_limit first) else None)))

-- of two: `verify FILE PROOF`, `upgrade FILE PROOF`, `least FILE NAME`, `run FILE DOC`
abbrev pub of_two : (command file second : List ℕ) → Option Command
of_two command file second =
    if bytes_eq command (codes "verify") then Some (Verify file second)
    else (if bytes_eq command (codes "upgrade") then Some (Upgrade file second)
    else (if bytes_eq command (codes "least") then Some (Least file second)
    else (if bytes_eq command (codes "run") then Some (Run file second default_fuel) else None)))

-- of three: `fits FILE NAME DOC`, `subtype FILE A B`, `minus FILE A B`, `run FILE DOC FUEL`
abbrev pub of_three : (command file second third : List ℕ) → Option Command
of_three command file second third =
    if bytes_eq command (codes "fits") then Some (Fits file second third)
    else (if bytes_eq command (codes "subtype") then Some (Subtype file second third)
    else (if bytes_eq command (codes "minus") then Some (Minus file second third)
    else (if bytes_eq command (codes "run") then option_map (Run file second) (number_within fuel_limit third)
    else None)))

-- of four: `stream FILE NAME DOC PIECE`
abbrev pub of_four : (command file second third fourth : List ℕ) → Option Command
of_four command file second third fourth =
    if bytes_eq command (codes "stream")
    then option_map (Stream file second third) (number_within piece_limit fourth) else None

-- the command that the words give; other words are none
abbrev pub command_of : List (List ℕ) → Option Command
command_of (command ∷ file ∷ []) = of_one command file
command_of (command ∷ file ∷ second ∷ []) = of_two command file second
command_of (command ∷ file ∷ second ∷ third ∷ []) = of_three command file second third
command_of (command ∷ file ∷ second ∷ third ∷ fourth ∷ []) = of_four command file second third fourth
command_of words = None
