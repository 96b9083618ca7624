-- A tick line, one equation for each way that the code can go. Assumes nothing.
use Prim.Native.Nat.{ℕ, ◌+◌}
use mathlib.Core.Path.{◌≡◌, refl, ap, ◌∙◌}
use mathlib.Core.Bool.{Bool, true, false, cond}
use mathlib.Core.List.{List, [], ◌∷◌}
use lib.Dec.{leb, leb-zero}
use lib.IntN.{ℤ}
use lib.ListN.{length}
use Rattle.hexadecimal.specs.Hex.{payload_of, read_of, laid, held_after}
use Rattle.std.specs.Prelude.{Result, Ok, Err, Option, Some, None}
use Rattle.hexadecimal.specs.declared.PayloadRefusal.{PayloadRefusal}
use Rattle.hexadecimal.specs.declared.PayloadRefusal.TheVariants.{TooShort}
use Rattle.grammar.specs.Grammar.{Read, fails, reads, on, text, up_to}
use Rattle.grammar.proofs.Bytes.{up_to_byte}
use Rattle.sheet.specs.Form.{where_true, Transfer, silence, bytes_of, spells, command, Tick, any_tick_line, within, tick_line}
use Rattle.sheet.specs.Answers.{sent_length, refused_by, line_by, command_of, command_held, tick_of, tick_held, is_read, tick_number, tick_refusal}
use Rattle.sheet.specs.declared.ticks.TickLine.{TickLine}
use Rattle.grammar.specs.declared.Found.{Found}
use Rattle.sheet.specs.declared.ticks.TickRefusal.{TickRefusal}
use Rattle.sheet.specs.declared.ticks.TickRefusal.TheVariants as refusal

-- ---- what a command spells, by what the read of its text answered
abbrev pub command_by : ℕ → Result ℕ PayloadRefusal → Result (Found (Option ℕ)) TickRefusal
command_by next (Ok count) = Ok (record { value = Some count; next = next })
command_by next (Err e) = Err (refused_by e)

pub spells_told : (o : Option (List ℕ)) (room next : ℕ) → command_by next (read_of o room) ≡ command_of room (spells o next)
spells_told None room next = refl
spells_told (Some bs) room next = go (leb (length bs) room)
  where
    go : (t : Bool) → command_by next (cond t (Ok (length bs)) (Err TooShort)) ≡ cond t (Ok (record { value = Some (length bs); next = next })) (Err refusal.TransferTooLong)
    go true = refl
    go false = refl

pub spells_held : (o : Option (List ℕ)) (next : ℕ) (held : List ℕ) → held_after o held ≡ command_held (spells o next) held
spells_held None next held = refl
spells_held (Some bs) next held = refl

-- no bytes change nothing
pub laid_none : (held : List ℕ) → held ≡ laid [] held
laid_none held = rw (leb-zero (length held))

pub silence_fits : (room next : ℕ) → Ok (record { value = None; next = next }) ≡ command_of room (reads silence next)
silence_fits room next = rw (leb-zero room)

-- ---- a command: `-` and the line's end, or what its text spells
module _ (s : List ℕ) (i : ℕ) where
  module _ (lit : List ℕ) where
    pub command_silent : (j : ℕ) → text lit s i ≡ reads tt j → lit ≡ 45 ∷ 10 ∷ [] → command s i ≡ reads silence j
    unfolding command
    command_silent j e l = rw (rw l at e)

    pub command_endless : text lit s i ≡ fails → lit ≡ 45 ∷ 10 ∷ [] → up_to 10 s i ≡ fails → command s i ≡ fails
    unfolding command
    command_endless e l q = rw (rw l at e, q)

    pub command_spelt : (line : List ℕ) (j : ℕ) → text lit s i ≡ fails → lit ≡ 45 ∷ 10 ∷ [] → up_to 10 s i ≡ reads line j → command s i ≡ spells (payload_of line) (j + 1)
    unfolding command
    command_spelt line j e l q = rw (rw l at e, q, up_to_byte 10 s i line j q)

-- ---- a tick line, by what the read of its command answered
abbrev pub tick_by : ℤ → ℕ → Result (Found (Option ℕ)) TickRefusal → Result TickLine TickRefusal
tick_by rail overcurrent (Ok found) = Ok (record { rail = rail; overcurrent = overcurrent; transfer = found.value; next = found.next })
tick_by rail overcurrent (Err e) = Err e

module _ (rail : ℤ) (overcurrent : ℕ) where
  abbrev pub tick_with : Read Transfer → Read Tick
  tick_with r = on r (λ t j. reads (record { rail = rail; overcurrent = overcurrent; transfer = t }) j)

  pub tick_told : (room : ℕ) (r : Read Transfer) → tick_by rail overcurrent (command_of room r) ≡ tick_of room (tick_with r)
  tick_told room fails = refl
  tick_told room (reads t j) = go (leb (length (bytes_of t)) room)
    where
      go : (b : Bool)
          → tick_by rail overcurrent (cond b (Ok (record { value = sent_length t; next = j })) (Err refusal.TransferTooLong))
          ≡ cond b (Ok (record { rail = rail; overcurrent = overcurrent; transfer = sent_length t; next = j })) (Err refusal.TransferTooLong)
      go true = refl
      go false = refl

  pub tick_held_lem : (r : Read Transfer) (held : List ℕ) → command_held r held ≡ tick_held (tick_with r) held
  tick_held_lem fails held = refl
  tick_held_lem (reads t j) held = refl

-- ---- the number of the answer, by the form
pub tick_number_lem : (room : ℕ) (s : List ℕ) (i : ℕ) → tick_number (tick_of room (any_tick_line s i)) ≡ tick_refusal room s i
unfolding tick_refusal tick_line
tick_number_lem room s i = go (any_tick_line s i)
  where
    go : (r : Read Tick)
        → tick_number (tick_of room r) ≡ cond (is_read (on r (λ tick j. on (where_true (within room tick) s j) (λ u k. reads tick k)))) 0 (cond (is_read r) 13 14)
    go fails = refl
    go (reads t j) = fit (within room t)
      where
        fit : (b : Bool)
            → tick_number (cond b (Ok (line_by t j)) (Err refusal.TransferTooLong))
            ≡ cond (is_read (on (where_true b s j) (λ u k. reads t k))) 0 13
        fit true = refl
        fit false = refl

pub with_number : {Held : Type 0} (r : Result TickLine TickRefusal) (room : ℕ) (s : List ℕ) (i : ℕ) → (r ≡ tick_of room (any_tick_line s i)) × Held
    → (r ≡ tick_of room (any_tick_line s i)) × (Held × (tick_number r ≡ tick_refusal room s i))
with_number r room s i e = (e.0, (e.1, ap tick_number e.0 ∙ tick_number_lem room s i))
