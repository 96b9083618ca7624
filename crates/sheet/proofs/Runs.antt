-- Tick lines one after another. Assumes nothing.
use Prim.Native.Nat.{ℕ, zero, suc, ◌-◌, ◌<◌}
use mathlib.Core.Path.{◌≡◌, refl, sym, ap}
use mathlib.Core.Bool.{Bool, true, false, cond}
use mathlib.Core.List.{List, ◌∷◌}
use native.Mathlib.Omega.{arith}
use lib.Dec.{eqb}
use lib.ListN.{length}
use Rattle.grammar.specs.Grammar.{Read, fails, reads, on, times, end}
use Rattle.grammar.proofs.Together.{on_on}
use Rattle.sheet.specs.Form.{where_true, Tick, any_tick_line, within, tick_line}
use Rattle.sheet.specs.Answers.{line_by, is_read, tick_of, are_ticks}
use Rattle.std.specs.Prelude.{Result, Ok, Err}
use Rattle.sheet.specs.declared.ticks.TickLine.{TickLine}
use Rattle.sheet.specs.declared.ticks.TickRefusal.{TickRefusal}

-- so many more behind a line that was read
abbrev pub are_ticks_behind : ℕ → List ℕ → Result TickLine TickRefusal → Bool
are_ticks_behind n s (Ok line) = are_ticks n s line.next
are_ticks_behind n s (Err e) = false

pub ticks_turn : (n : ℕ) (s : List ℕ) (i room : ℕ) → 0 < n → room ≡ 256 → are_ticks_behind (n - 1) s (tick_of room (any_tick_line s i)) ≡ are_ticks n s i
unfolding are_ticks times tick_line
ticks_turn zero s i room h e = absurd (omega arith)
ticks_turn (suc n) s i room h e =
    let m : suc n - 1 ≡ n = omega arith in
    rw (m, e) (go (any_tick_line s i))
  where
    others : (a : Tick) (j : ℕ) → are_ticks n s j ≡ is_read (on (on (times n (tick_line 256) s j) (λ rest k. reads (a ∷ rest) k)) (λ ticks k. end s k))
    others a j = sym (ap is_read (on_on (times n (tick_line 256) s j) (λ rest k. reads (a ∷ rest) k) (λ ticks k. end s k)))

    go : (r : Read Tick)
        → are_ticks_behind n s (tick_of 256 r)
        ≡ is_read (on (on (on r (λ tick j. on (where_true (within 256 tick) s j) (λ u k. reads tick k))) (λ a j. on (times n (tick_line 256) s j) (λ rest k. reads (a ∷ rest) k))) (λ ticks k. end s k))
    go fails = refl
    go (reads a j) = fit (within 256 a)
      where
        fit : (b : Bool)
            → are_ticks_behind n s (cond b (Ok (line_by a j)) (Err TickRefusal.TransferTooLong))
            ≡ is_read (on (on (on (where_true b s j) (λ u k. reads a k)) (λ a j. on (times n (tick_line 256) s j) (λ rest k. reads (a ∷ rest) k))) (λ ticks k. end s k))
        fit true = others a j
        fit false = refl

pub ticks_end : (n : ℕ) (s : List ℕ) (i : ℕ) → n ≡ 0 → eqb i (length s) ≡ are_ticks n s i
unfolding are_ticks times end
ticks_end n s i e = rw e (go (eqb i (length s)))
  where
    go : (t : Bool) → t ≡ is_read (cond {A = Read (Unit {0})} t (reads tt i) fails)
    go true = refl
    go false = refl
