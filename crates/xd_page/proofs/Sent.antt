-- An output that the room cuts off is sent, as far as there is room.
use Rattle.std.proofs.Common.{◌≡◌, ℕ, ◌<◌, ◌-◌, List, [], ◌++◌, length, take, drop, min, Some, inr, refl, sym, subst, arith}
use Rattle.std.proofs.lemmas.List.{take-append-drop, length-drop}
use Rattle.xd_command_steps.specs.Output.{Output, IsSent}

cut_off_text : (status n m : ℕ) (text room : List ℕ) → n ≡ min (length text) m → length room ≡ m → take n room ≡ take n text → n < length text →
    IsSent (record { status = status; text = text }) (n ≡ length room) (Some []) (Some (take n room)) 4
cut_off_text status n m text room e r t l =
    let d : length (drop n text) ≡ length text - n = length-drop n text in
    inr (refl, omega arith, (take n text, drop n text, omega arith, sym (take-append-drop n text), t))

-- the same where the bytes are those of the text
pub cut_off : (status n m : ℕ) (text bytes room : List ℕ) → bytes ≡ text → n ≡ min (length bytes) m → length room ≡ m → take n room ≡ take n bytes → n < length bytes →
    IsSent (record { status = status; text = text }) (n ≡ length room) (Some []) (Some (take n room)) 4
cut_off status n m text bytes room v e r t l =
    subst (λ (it : List ℕ). IsSent (record { status = status; text = it }) (n ≡ length room) (Some []) (Some (take n room)) 4) v (cut_off_text status n m bytes room e r t l)
