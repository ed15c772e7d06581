-- What a stream was given.
use Rattle.std.specs.Prelude.{◌≡◌, ℕ, ◌+◌, ◌-◌, ◌≤◌, List, [], ◌∷◌, ◌++◌, length}
use Rattle.xd_base.specs.declared.Place.{Place}
use Rattle.xd_lex.specs.Tokens.{Lexeme}
use Rattle.xd_read.specs.Grammar.{Terminal, Label, BracketR}
use Rattle.xd_auto.specs.declared.auto.State.{State}
use Rattle.xd_auto.specs.Automaton.{Automaton}
use Rattle.xd_read.specs.Reading.{terminals_of}
use Rattle.xd_stream.specs.StopByState.{BeginsAccepted, IsAccepted}
use Rattle.xd_stream.specs.Stop.{StopsMalformed, StopsOutside, stream_tokens, tokens_at}
use Rattle.xd_stream.specs.declared.error.StreamError.{StreamError}
use Rattle.xd_stream.specs.declared.error.StreamError.TheVariants.{Malformed, Outside, NoMemory}

-- the bytes stop so, as to what the state accepts
abbrev pub StopsAs : Automaton → State → List ℕ → StreamError → Type 0
StopsAs a s bytes (Malformed p) = StopsMalformed (IsAccepted a s) bytes p
StopsAs a s bytes (Outside p) = StopsOutside (IsAccepted a s) bytes p
StopsAs a s bytes NoMemory = Unit {0}

-- it tells of a stop
abbrev pub IsStop : StreamError → Type 0
IsStop NoMemory = ⊥
IsStop e = Unit {0}

-- whatever follows the bytes, they stop so
abbrev pub AreStopped : Automaton → State → List ℕ → StreamError → Type 0
AreStopped a s bytes e = (more : List ℕ) → StopsAs a s (bytes ++ more) e

-- whatever follows the bytes, their tokens begin with these
abbrev pub AreSettled : List ℕ → List Lexeme → Type 0
AreSettled bytes tokens = (more : List ℕ) → (after : List Lexeme) × (stream_tokens (bytes ++ more) ≡ tokens ++ after)

-- every front of the tokens that stays, whatever follows, begins an accepted document
abbrev pub GoesSettled : Automaton → State → List ℕ → Type 0
GoesSettled a s bytes = (before : List Lexeme) (x : Lexeme) → AreSettled bytes (before ++ x ∷ []) → BeginsAccepted a s (terminals_of (before ++ x ∷ []))

-- the whole tokens of the bytes: the most that stay, whatever follows
pub record AreWhole (bytes : List ℕ) (tokens : List Lexeme) : Type 0 where
  pub settled : AreSettled bytes tokens
  pub most : (others : List Lexeme) → AreSettled bytes others → length others ≤ length tokens

-- the bytes after the last whole token are at least these, and the token that they belong to
-- begins among them
pub record AreBehindWhole (bytes rest : List ℕ) (tokens : List Lexeme) : Type 0 where
  pub front : List ℕ
  pub from : Place
  pub split : bytes ≡ front ++ rest
  pub behind : (more : List ℕ) → stream_tokens (bytes ++ more) ≡ tokens ++ tokens_at from (rest ++ more)

-- how many elements are open after a terminal, where so many were
abbrev pub open_behind : ℕ → Terminal → ℕ
open_behind n (Label l) = n + 1
open_behind n BracketR = n - 1
open_behind n t = n

-- how many elements the terminals leave open, where so many were
abbrev pub open_elements : ℕ → List Terminal → ℕ
open_elements n [] = n
open_elements n (t ∷ ts) = open_elements (open_behind n t) ts
