-- The run of a rail that is low for good, from the start, stage by stage and for any two times: 50 off, linger + 1 on,
-- the emergency period off, linger + 1 on, off. Assumes nothing.
use mathlib.Core.Path.{◌≡◌, refl, sym, ap, ◌∙◌}
use mathlib.Core.Bool.{Bool, true, false}
use mathlib.Core.List.{List, [], ◌∷◌, ◌++◌}
use Prim.Native.Nat.{ℕ, zero, suc, ◌+◌, ◌-◌, ◌^◌, ◌≤◌, ◌<◌, min}
use native.Mathlib.Nat.{zero-add, add-zero, add-suc, suc-add}
use native.Mathlib.Omega.{arith}
use borrow.Author.Tests.{le-leb, lt-leb, le-ltb, lt-ltb}
use lib.ListN.{replicate, replicate-append-replicate}
use Rattle.modes.specs.Table.{◌at_least◌, ◌above◌, ◌below◌, ◌aged◌, step_of, older_of}
use Rattle.modes.specs.declared.Mode.{Mode}
use Rattle.modes.specs.declared.Mode.TheVariants.{Startup, Safety, Emergency}
use Rattle.power.specs.Runs.{ends, channel, turns}
use Rattle.power.specs.Machine.{State, Times, other, Input, start, tick}
use Rattle.power.specs.Claim.{is_tick, is_on}

-- a tick whose rail is low by every threshold, with no command that matters
pub record Low (i : Input) : Type 0 where
  pub below_safety_low : (i.rail at_least i.safety_low) ≡ false
  pub below_safety_high : (i.rail above i.safety_high) ≡ false
  pub below_emergency_low : (i.rail below i.emergency_low) ≡ true
  pub below_emergency_high : (i.rail above i.emergency_high) ≡ false
  pub no_command : i.command ≡ other

-- the ticks of the run; emergency has at least one, even where the period is 0
abbrev pub low_ticks : Times → ℕ
low_ticks t = 49 + (suc t.linger + (suc (t.period - 1) + (suc t.linger + 1)))

-- stages of one input are one stage
adds : (i : Input) (n m : ℕ) {is : List Input} → is ≡ replicate m i → replicate n i ++ is ≡ replicate (n + m) i
adds i n m e = rw e (replicate-append-replicate n m i)

-- the five stages are one run
joined : (i : Input) (lit dark : ℕ) → replicate 49 i ++ (replicate lit i ++ (replicate dark i ++ (replicate lit i ++ replicate 1 i))) ≡ replicate (49 + (lit + (dark + (lit + 1)))) i
joined i lit dark = adds i 49 (lit + (dark + (lit + 1))) (adds i lit (dark + (lit + 1)) (adds i dark (lit + 1) (adds i lit 1 refl)))

-- a state, by its mode, age and channel
abbrev state : Mode → ℕ → Bool → State
state m a o = record { phase = m aged a; on = o }

module _ (t : Times) (i : Input) where
  -- the channel at the ticks' ends
  abbrev pub line : State → List Input → List Bool
  line s is = ends (tick t) is_tick is_on s is

  -- n ticks that only add to the age
  staying : (m : Mode) (o : Bool) (top : ℕ) → ((a : ℕ) → a < top → tick t (state m a o) i ≡ state m (suc a) o)
      → (n a : ℕ) → a + n ≤ top → (rest : List Input) → line (state m a o) (replicate n i ++ rest) ≡ replicate n o ++ line (state m (a + n) o) rest
  staying m o top grows zero a h rest = rw add-zero
  staying m o top grows (suc n) a h rest =
      rw (grows a (omega arith), add-suc, ← suc-add)
      (ap (λ (l : List Bool). o ∷ l) (staying m o top grows n (suc a) (omega arith) rest))

  -- a mode that is entered from s, and n ticks more in it
  entering : (s : State) (m : Mode) (o : Bool) (top : ℕ) → tick t s i ≡ state m 0 o → ((a : ℕ) → a < top → tick t (state m a o) i ≡ state m (suc a) o)
      → (n : ℕ) → n ≤ top → (rest : List Input) → line s (replicate (suc n) i ++ rest) ≡ replicate (suc n) o ++ line (state m n o) rest
  entering s m o top enters grows n h rest =
      rw enters (ap (λ (l : List Bool). o ∷ l) (rw zero-add at (staying m o top grows n 0 (omega arith) rest)))

  module _ (low : Low i) (l : t.linger < 2 ^ 64 - 1) (p : t.period < 2 ^ 64) where
    -- startup is left at age 50, for safety
    startup_ages : (a : ℕ) → a < 49 → tick t (state Startup a false) i ≡ state Startup (suc a) false
    unfolding tick step_of older_of
    startup_ages a h =
        let e : min (a + 1) (2 ^ 64 - 1) ≡ suc a = omega arith in
        rw (low.no_command, e, lt-leb 50 (suc a) (omega arith))

    startup_ends : tick t (state Startup 49 false) i ≡ state Safety 0 true
    unfolding tick step_of older_of
    startup_ends =
        rw (low.no_command, low.below_safety_low)

    -- safety is left once linger is over, for emergency
    safety_ages : (a : ℕ) → a < t.linger → tick t (state Safety a true) i ≡ state Safety (suc a) true
    unfolding tick step_of older_of
    safety_ages a h =
        let e : min (a + 1) (2 ^ 64 - 1) ≡ suc a = omega arith in
        rw (low.no_command, e, le-ltb t.linger (suc a) (omega arith))

    safety_ends : tick t (state Safety t.linger true) i ≡ state Emergency 0 false
    unfolding tick step_of older_of
    safety_ends =
        rw (low.no_command, lt-ltb t.linger (min (t.linger + 1) (2 ^ 64 - 1)) (omega arith), low.below_safety_high, low.below_emergency_low)

    -- emergency is left when its period is reached, for safety
    emergency_ages : (a : ℕ) → a < t.period - 1 → tick t (state Emergency a false) i ≡ state Emergency (suc a) false
    unfolding tick step_of older_of
    emergency_ages a h =
        let e : min (a + 1) (2 ^ 64 - 1) ≡ suc a = omega arith in
        rw (low.no_command, e, low.below_emergency_high, lt-leb t.period (suc a) (omega arith))

    emergency_ends : tick t (state Emergency (t.period - 1) false) i ≡ state Safety 0 true
    unfolding tick step_of older_of
    emergency_ends =
        rw (low.no_command, low.below_emergency_high, le-leb t.period (min (t.period - 1 + 1) (2 ^ 64 - 1)) (omega arith))

    -- the whole run, one stage behind another
    by_stages : channel (tick t) is_tick is_on start (replicate 49 i ++ (replicate (suc t.linger) i ++ (replicate (suc (t.period - 1)) i ++ (replicate (suc t.linger) i ++ replicate 1 i))))
        ≡ turns 50 (suc t.linger) (suc (t.period - 1)) (suc t.linger)
    unfolding turns
    by_stages =
        let lasts : line (state Safety t.linger true) (i ∷ []) ≡ false ∷ [] = rw safety_ends in
        let again =
        entering (state Emergency (t.period - 1) false) Safety true t.linger emergency_ends safety_ages t.linger (omega arith) (i ∷ [])
        ∙ ap (λ (l : List Bool). replicate (suc t.linger) true ++ l) lasts in
        let dark =
        entering (state Safety t.linger true) Emergency false (t.period - 1) safety_ends emergency_ages (t.period - 1) (omega arith) (replicate (suc t.linger) i ++ (i ∷ []))
        ∙ ap (λ (l : List Bool). replicate (suc (t.period - 1)) false ++ l) again in
        let lit =
        entering (state Startup 49 false) Safety true t.linger startup_ends safety_ages t.linger (omega arith) (replicate (suc (t.period - 1)) i ++ (replicate (suc t.linger) i ++ (i ∷ [])))
        ∙ ap (λ (l : List Bool). replicate (suc t.linger) true ++ l) dark in
        ap (λ (l : List Bool). false ∷ l)
        (staying Startup false 49 startup_ages 49 0 (omega arith) (replicate (suc t.linger) i ++ (replicate (suc (t.period - 1)) i ++ (replicate (suc t.linger) i ++ (i ∷ []))))
        ∙ ap (λ (l : List Bool). replicate 49 false ++ l) lit)

    -- as one run of so many ticks
    pub low_run : channel (tick t) is_tick is_on start (replicate (low_ticks t) i) ≡ turns 50 (suc t.linger) (suc (t.period - 1)) (suc t.linger)
    low_run = ap (λ (is : List Input). channel (tick t) is_tick is_on start is) (sym (joined i (suc t.linger) (suc (t.period - 1)))) ∙ by_stages
