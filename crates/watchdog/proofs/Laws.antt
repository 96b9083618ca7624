-- When each event comes, and that the report comes at one timer value alone. Assumes nothing.
use mathlib.Core.Path.{◌≡◌, refl}
use mathlib.Core.List.{[], ◌∷◌, map}
use mathlib.Core.Logic.{⊎_elim}
use Prim.Native.Nat.{ℕ, ◌+◌, ◌-◌, ◌*◌, ◌^◌, ◌≤◌, ◌<◌}
use native.Mathlib.Omega.{arith}
use borrow.Author.Tests.{lt-ltb, le-ltb, le-leb, lt-leb}
use Rattle.laws.proofs.Lists.{lt_or_le}
use Rattle.watchdog.specs.Watchdog.{risen_of, watched_of}
use Rattle.watchdog.specs.Report.{ReportAt}
use Rattle.watchdog.specs.declared.Event.TheVariants.{NoEvent, PeripheralReset, WatchdogReset}

-- a timeout of 0 disables both
pub disabled : (timer w : ℕ) → w ≡ 0 → watched_of timer w ≡ NoEvent
unfolding watched_of
disabled timer w e = simp (le-ltb 0 w (omega arith))

module _ (timer w : ℕ) (on : 0 < w) where
  pub reset : w ≤ timer → watched_of timer w ≡ WatchdogReset
  unfolding watched_of
  reset h = simp (lt-ltb 0 w on, le-leb w timer h)

  pub reported : timer < w → ReportAt w timer → watched_of timer w ≡ PeripheralReset
  unfolding watched_of
  reported h r =
      simp
      (lt-ltb 0 w on, lt-leb w timer h, le-leb (65 * w) (100 * timer) r.reached, lt-ltb (100 * (timer - 1)) (65 * w) (omega (arith, r.only_now)))

  pub early : timer < w → 100 * timer < 65 * w → watched_of timer w ≡ NoEvent
  unfolding watched_of
  early h l = simp (lt-ltb 0 w on, lt-leb w timer h, lt-leb (65 * w) (100 * timer) l)

  pub late : timer < w → 65 * w ≤ 100 * (timer - 1) → watched_of timer w ≡ NoEvent
  unfolding watched_of
  late h l =
      simp (lt-ltb 0 w on, lt-leb w timer h, le-leb (65 * w) (100 * timer) (omega arith), le-ltb (100 * (timer - 1)) (65 * w) l)

  -- at any other timer value below the timeout nothing comes
  pub quiet : (r : ℕ) → timer < w → ReportAt w r → (timer ≡ r → ⊥) → watched_of timer w ≡ NoEvent
  quiet r h a n =
      ⊎_elim
      (λ (l : timer < r). early h (omega (arith, a.only_now)))
      (λ (l : r ≤ timer). let g : r < timer = omega (arith, n) in late h (omega (arith, a.reached)))
      (lt_or_le timer r)

-- a timer at 0 brings no event, whatever the timeout
pub quiet_at_0 : (w : ℕ) → watched_of 0 w ≡ NoEvent
quiet_at_0 w = ⊎_elim (λ (h : 0 < w). early 0 w h h (omega arith)) (λ (h : w ≤ 0). disabled 0 w (omega arith)) (lt_or_le 0 w)

-- one timer value alone has the report
pub once : (w a b : ℕ) → ReportAt w a → ReportAt w b → a ≡ b
once w a b p q = omega (arith, p.reached, p.only_now, q.reached, q.only_now)

-- document 01's row 15, and the tick before and after the report
pub row_15 : map (λ timer. watched_of timer 1000) (649 ∷ 650 ∷ 651 ∷ 999 ∷ 1000 ∷ []) ≡ NoEvent ∷ PeripheralReset ∷ NoEvent ∷ NoEvent ∷ WatchdogReset ∷ []
unfolding watched_of
row_15 = refl

-- the timer rises by 1 below its top, and stays there
pub risen_rises : (timer : ℕ) → timer < 2 ^ 64 - 1 → risen_of timer ≡ timer + 1
unfolding risen_of
risen_rises timer h = omega arith

pub risen_stops : risen_of (2 ^ 64 - 1) ≡ 2 ^ 64 - 1
unfolding risen_of
risen_stops = refl
