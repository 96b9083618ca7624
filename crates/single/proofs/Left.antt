-- What is left of a session or of a bench is the answer and the buffer, and nothing else. Assumes nothing.
use Prim.Native.Nat.{ℕ}
use mathlib.Core.Path.{◌≡◌, refl, ap, sym, ◌∙◌}
use Rattle.std.specs.Prelude.{Result, Ok, Err}
use mathlib.Core.List.{List}
use Rattle.script.specs.Printing.{page}
use Rattle.session.specs.Sessions.{Open, opens, Step, steps, opened, stepped}
use Rattle.transcript.specs.declared.SheetRefusal.{SheetRefusal}
use Rattle.session.specs.declared.Stepped.{Stepped}
use Rattle.handling.specs.Benches.{Shown, shown, left}
use Rattle.handling.specs.declared.Ran.{Ran}

abbrev open_held : Open → List ℕ
open_held (opens session answer (page held at)) = held

abbrev opened_in : Open → Result Stepped SheetRefusal
opened_in (opens session (Ok u) (page held at)) = Ok (record { session = session; printed = at })
opened_in (opens session (Err e) p) = Err e

opened_back : (r : Result Stepped SheetRefusal) (held : List ℕ) → opened_in (opened r held) ≡ r
opened_back (Ok r) held = refl
opened_back (Err e) held = refl

held_back : (r : Result Stepped SheetRefusal) (held : List ℕ) → open_held (opened r held) ≡ held
held_back (Ok r) held = refl
held_back (Err e) held = refl

abbrev stepped_in : Step → Stepped
stepped_in (steps session (page held at)) = record { session = session; printed = at }

abbrev step_held : Step → List ℕ
step_held (steps session (page held at)) = held

abbrev ran_in : Shown → Ran
ran_in (shown bench (page held at)) = record { bench = bench; printed = at }

abbrev ran_held : Shown → List ℕ
ran_held (shown bench (page held at)) = held

module _ (held held' : List ℕ) (r r' : Result Stepped SheetRefusal) (e : opened r held ≡ opened r' held') where
  pub opened_same : r ≡ r'
  opened_same = sym (opened_back r held) ∙ ap opened_in e ∙ opened_back r' held'

  pub opened_held : held ≡ held'
  opened_held = sym (held_back r held) ∙ ap open_held e ∙ held_back r' held'

module _ {held held' : List ℕ} where
  pub stepped_same : (r r' : Stepped) → stepped r held ≡ stepped r' held' → r ≡ r'
  stepped_same r r' e = ap stepped_in e

  pub stepped_held : (r r' : Stepped) → stepped r held ≡ stepped r' held' → held ≡ held'
  stepped_held r r' e = ap step_held e

  pub left_same : (r r' : Ran) → left r held ≡ left r' held' → r ≡ r'
  left_same r r' e = ap ran_in e

  pub left_held : (r r' : Ran) → left r held ≡ left r' held' → held ≡ held'
  left_held r r' e = ap ran_held e
