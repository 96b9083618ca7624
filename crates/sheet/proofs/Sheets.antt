-- The whole sheet. Assumes nothing.
use Rattle.std.specs.Prelude.{Option, Some, None}
use Prim.Native.Nat.{ℕ, ◌≤◌, ◌<◌}
use mathlib.Core.Path.{◌≡◌, refl, sym, ap, ◌∙◌}
use mathlib.Core.Bool.{Bool, true, false, cond}
use mathlib.Core.Logic.{⊎_elim}
use mathlib.Core.List.{List}
use native.Mathlib.Omega.{arith}
use lib.Dec.{eqb}
use lib.ListN.{length}
use borrow.Author.Tests.{le-leb, lt-leb, eqb-true}
use Rattle.laws.proofs.Lists.{lt_or_le}
use Rattle.grammar.specs.Grammar.{Read, fails, reads, on, times, end}
use Rattle.grammar.specs.Views.{refusal_of}
use Rattle.sheet.specs.Form.{board_word, fitted_word, forced_word, ticks_word, count, channel_set, Top, top_at, head, Tick, tick_line, Sheet, sheet, sheet_in}
use Rattle.sheet.specs.Answers.{head_by, head_of, is_read, are_ticks, sheet_head, head_number}
use Rattle.sheet.specs.declared.head.Head.{Head}
use Rattle.sheet.proofs.Behind.{went}
use Rattle.sheet.proofs.Parts.{count_most}

-- ---- the place of the first tick line is the place behind the head, and there are at most 4,096 of them
record Led (top : Top) (j : ℕ) : Type 0 where
  first_is : top.first ≡ j
  few : top.count ≤ 4096

abbrev top_or : Top → Read Top → Top
top_or top fails = top
top_or top (reads other j) = other

led : (made top : Top) (k j : ℕ) → made.first ≡ k → made.count ≤ 4096 → reads made k ≡ reads top j → Led top j
led made top k j e few q =
    let t : top ≡ made = sym (ap (top_or top) q) in
    let p : k ≡ j = cc in
    rw t (record { first_is = e ∙ p; few = few })

head_led : (s : List ℕ) (i : ℕ) (top : Top) (j : ℕ) → head s i ≡ reads top j → Led top j
unfolding head
head_led s i top j e =
    let b = went (count board_word 255 s i) _ top j e in
    let f = went (channel_set fitted_word s b.place) _ top j b.onward in
    let g = went (channel_set forced_word s f.place) _ top j f.onward in
    let n = went (count ticks_word 4096 s g.place) (λ ticks k. top_at b.what f.what g.what ticks s k) top j g.onward in
    led _ top n.place j refl (count_most ticks_word 4096 s g.place n.what n.place n.first) n.onward

-- ---- the answer, by what was read before the ticks
abbrev pub head_if : List ℕ → Option Head → Option Head
head_if s (Some head) = cond (are_ticks head.ticks s head.first) (Some head) None
head_if s None = None

module _ (s : List ℕ) where
  -- a sheet that is too long
  pub sheet_long : 65536 < length s → sheet_in s ≡ fails
  unfolding sheet_in
  sheet_long h = rw (lt-leb (length s) 65536 h)

  pub sheet_told_lem : length s ≤ 65536 → head_if s (head_of (head s 0)) ≡ sheet_head (sheet_in s)
  unfolding sheet_in sheet are_ticks
  sheet_told_lem h = rw (le-leb (length s) 65536 h) (go (head s 0) refl)
    where
      ending : (top : Top) (ticks : List Tick) (r : Read (Unit {0}))
          → cond (is_read r) (Some (head_by top)) None ≡ sheet_head (on r (λ u m. reads (record { top = top; ticks = ticks }) m))
      ending top ticks fails = refl
      ending top ticks (reads u m) = refl

      lines : (top : Top) (r : Read (List Tick))
          → cond (is_read (on r (λ ticks k. end s k))) (Some (head_by top)) None
          ≡ sheet_head (on r (λ ticks k. on (end s k) (λ u m. reads (record { top = top; ticks = ticks }) m)))
      lines top fails = refl
      lines top (reads ticks k) = ending top ticks (end s k)

      go : (r : Read Top) → head s 0 ≡ r
          → head_if s (head_of r)
          ≡ sheet_head (on r (λ top j. on (times top.count (tick_line 256) s j) (λ ticks k. on (end s k) (λ u m. reads (record { top = top; ticks = ticks }) m))))
      go fails q = refl
      go (reads top j) q = rw (← (head_led s 0 top j q).first_is) (lines top (times top.count (tick_line 256) s top.first))

-- ---- what a sheet is that is read: all of it, with its tick lines from the first on
at_end : (s : List ℕ) (k m : ℕ) (u : Unit {0}) → end s k ≡ reads u m → (k ≡ length s) × (m ≡ k)
unfolding end
at_end s k m u e = go (eqb k (length s)) refl e
  where
    go : (t : Bool) → eqb k (length s) ≡ t → cond {A = Read (Unit {0})} t (reads tt k) fails ≡ reads u m → (k ≡ length s) × (m ≡ k)
    go true q e = let p : k ≡ m = cc in (eqb-true k (length s) q, sym p)
    go false q e = let z : ◌≡◌ {A = ℕ} 0 1 = cc in absurd (omega arith)

record Whole (s : List ℕ) (w : Sheet) (i : ℕ) : Type 0 where
  lines : times w.top.count (tick_line 256) s w.top.first ≡ reads w.ticks i
  all : i ≡ length s
  few : w.top.count ≤ 4096

abbrev sheet_or : Sheet → Read Sheet → Sheet
sheet_or w fails = w
sheet_or w (reads v i) = v

made : (s : List ℕ) (top : Top) (ticks : List Tick) (j k m : ℕ) (u : Unit {0}) (w : Sheet) (i : ℕ)
    → Led top j → times top.count (tick_line 256) s j ≡ reads ticks k → end s k ≡ reads u m
    → reads (record { top = top; ticks = ticks }) m ≡ reads w i → Whole s w i
made s top ticks j k m u w i f l n e =
    let t : w ≡ record { top = top; ticks = ticks } = sym (ap (sheet_or w) e) in
    let p : m ≡ i = cc in
    let a = at_end s k m u n in
    let q : k ≡ i = sym a.1 ∙ p in
    rw t (record { lines = rw (f.first_is, ← q) l; all = sym q ∙ a.0; few = f.few })

all_read : (s : List ℕ) (w : Sheet) (i : ℕ) → sheet_in s ≡ reads w i → Whole s w i
unfolding sheet_in sheet
all_read s w i e =
    ⊎_elim
    (λ (h : 65536 < length s). let q = sheet_long s h in let z : ◌≡◌ {A = ℕ} 0 1 = cc in absurd (omega arith))
    (λ (h : length s ≤ 65536).
    let x = rw (le-leb (length s) 65536 h) at e in
    let b = went (head s 0) _ w i x in
    let l = went (times b.what.count (tick_line 256) s b.place) _ w i b.onward in
    let n = went (end s l.place) _ w i l.onward in
    made s b.what l.what b.place l.place n.place n.what w i (head_led s 0 b.what b.place b.first) l.first n.first n.onward)
    (lt_or_le 65536 (length s))

-- ---- the answer is a head exactly where the sheet is of the form, and then it is that sheet's
pub answered : (s : List ℕ) → head_number (sheet_head (sheet_in s)) ≡ refusal_of (sheet_in s)
answered s = go (sheet_in s)
  where
    go : (r : Read Sheet) → head_number (sheet_head r) ≡ refusal_of r
    go fails = refl
    go (reads w i) = refl

pub with_number : (h : Option Head) (s : List ℕ) → h ≡ sheet_head (sheet_in s) → record { answer : h ≡ sheet_head (sheet_in s); number : head_number h ≡ refusal_of (sheet_in s) }
with_number h s e = record { answer = e; number = ap head_number e ∙ answered s }

-- the sheet behind a head that was answered; its ticks are read one after another from the first on, up to the end
pub record Accepted (s : List ℕ) (head : Head) : Type 0 where
  pub sheet : Sheet
  pub read : sheet_in s ≡ reads sheet (length s)
  pub its_top : head_by sheet.top ≡ head
  pub few : head.ticks ≤ 4096
  pub lines : times head.ticks (tick_line 256) s head.first ≡ reads sheet.ticks (length s)

pub accepted : (s : List ℕ) (head : Head) → Some head ≡ sheet_head (sheet_in s) → Accepted s head
accepted s head e = go (sheet_in s) refl e
  where
    go : (r : Read Sheet) → sheet_in s ≡ r → Some head ≡ sheet_head r → Accepted s head
    go fails q e = let z : ◌≡◌ {A = ℕ} 0 1 = cc in absurd (omega arith)
    go (reads w i) q e =
        let all = all_read s w i q in
        let top : head_by w.top ≡ head = cc in
        record {
          sheet = w;
          read = rw (← all.all) q;
          its_top = top;
          few = rw (← top) all.few;
          lines = rw (← top, ← all.all) all.lines;
        }

-- and without a head there is none
pub refused : (s : List ℕ) → None ≡ sheet_head (sheet_in s) → sheet_in s ≡ fails
refused s e = go (sheet_in s) e
  where
    go : (r : Read Sheet) → None ≡ sheet_head r → r ≡ fails
    go fails e = refl
    go (reads w i) e = let z : ◌≡◌ {A = ℕ} 0 1 = cc in absurd (omega arith)
