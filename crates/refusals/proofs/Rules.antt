-- The rules of a profile and the form of a sheet, as they are written out, are those that the machine goes by. Assumes
-- nothing.
use Prim.Native.Nat.{ℕ, zero, suc, ◌^◌, ◌≤◌, ◌<◌}
use mathlib.Core.Path.{◌≡◌, refl, sym, ap, ◌∙◌}
use mathlib.Core.Bool.{Bool, true, false, cond, not, ◌&&◌, ◌||◌, false≢true}
use mathlib.Core.Logic.{⊎_elim}
use mathlib.Core.List.{List}
use native.Mathlib.Omega.{arith}
use lib.Dec.{T, eqb, leb}
use lib.ListN.{length}
use lib.Signed.{le_z, le_z_yes}
use borrow.Author.Tests.{leb-true, le-leb, lt-leb, eqb-true, eq-eqb, ne_eqb}
use Rattle.settings.specs.declared.Settings.{Settings}
use Rattle.std.specs.Prelude.{Some, None, IfSome}
use Rattle.memory.specs.Memory.{Store}
use Rattle.laws.proofs.Cases.{cases, both}
use Rattle.laws.proofs.Lists.{lt_or_le}
use Rattle.kinds.specs.Kinds.{board_of, is_served}
use Rattle.value.specs.declared.ValueType.{ValueType}
use Rattle.settings.specs.Table.{Entry, read_write, read_only, missing, row_of, find, lies, read_write_rows, read_only_rows, column, parameter_in, parameter_of, low_end, high_end, low_of, high_of, inside_of, at_least, at_most, clamp_of, default_of}
use Rattle.settings.specs.Values.{setting_of, in_range_of, default_n, defaults_of}
use Rattle.settings.specs.declared.Parameter.{Parameter}
use Rattle.settings.proofs.Laws.{in_range_each, each_in_range}
use Rattle.channels.specs.Sets.{has, all_below, is_within}
use Rattle.channels.proofs.Sets.{is_none, has_none, within_each, each_within}
use Rattle.state.specs.Start.{stored_in_range, bid_in_range, any_fitted, channels_in_place, keeps_the_rules}
use Rattle.state.specs.declared.parts.Profile.{Profile}
use Rattle.grammar.specs.Grammar.{Read, fails, reads, times, end}
use Rattle.sheet.specs.Form.{head, tick_line, Sheet, sheet, sheet_in}
use Rattle.sheet.proofs.Behind.{went}
use Rattle.refusals.specs.Rules.{InRange, KeepsAllRules, OfTheForm, BaseBoard, BatteryBoard}

-- ---- some channel is in a set that is not empty
picked : (n : ℕ) (p : ℕ → Bool) → all_below n (λ c. not (p c)) ≡ false → (c : ℕ) × (p c ≡ true)
unfolding all_below
picked zero p e = absurd (false≢true (sym e))
picked (suc n) p e = cases (p n) (λ h. (n, h)) (λ h. picked n p (rw h at e))

below_power : (n : ℕ) → n < 2 ^ n
below_power zero = omega arith
below_power (suc n) = omega (arith, below_power n)

some_channel : (s : ℕ) → not (eqb s 0) ≡ true → (c : ℕ) × (has s c ≡ true)
some_channel s e = picked s (has s) (sym (is_none s s (below_power s)) ∙ turned (eqb s 0) e)
  where
    turned : (b : Bool) → not b ≡ true → b ≡ false
    turned true e = absurd (false≢true e)
    turned false e = refl

not_empty : (s c : ℕ) → has s c ≡ true → not (eqb s 0) ≡ true
not_empty s c h = ap not (ne_eqb s 0 (λ (z : s ≡ 0). false≢true (sym (has_none c) ∙ ap (λ (n : ℕ). has n c) (sym z) ∙ h)))

-- ---- stored values
from_test : (b : Bool) → b ≡ true → T b
from_test true e = tt
from_test false e = absurd (false≢true e)

to_test : (b : Bool) → T b → b ≡ true
to_test true t = refl
to_test false t = absurd t

each_row : (settings : Settings) → in_range_of settings ≡ true → InRange settings
unfolding parameter_of inside_of low_of high_of
each_row settings h id type range default row =
    let z = setting_of settings id in
    let ends = both (le_z (low_end type range) z) (le_z z (high_end type range)) (rw row at (in_range_each settings h id type (rw row))) in
    (le_z_yes (from_test (le_z (low_end type range) z) ends.0), le_z_yes (from_test (le_z z (high_end type range)) ends.1))

rows_each : (settings : Settings) → InRange settings → in_range_of settings ≡ true
unfolding parameter_of inside_of low_of high_of
rows_each settings h = each_in_range settings (λ id type p. go id type (row_of id) refl p)
  where
    go : (id : ℕ) (type : ValueType) (entry : Entry) → row_of id ≡ entry → parameter_in entry ≡ Parameter.ReadWrite type → inside_of id (setting_of settings id) ≡ true
    go id type (read_write t range default) row p =
        let z = setting_of settings id in
        let ends = h id t range default row in
        rw (row, to_test (le_z (low_end t range) z) ends.0.le) (to_test (le_z z (high_end t range)) ends.1.le)
    go id type (read_only t) row p = let z : ◌≡◌ {A = ℕ} 0 1 = cc in absurd (omega arith)
    go id type missing row p = let z : ◌≡◌ {A = ℕ} 0 1 = cc in absurd (omega arith)

all_stored : (store : Store) → IfSome store (λ s. InRange s.settings) → stored_in_range store ≡ true
all_stored (Some s) h = rows_each s.settings h
all_stored None h = refl

each_stored : (store : Store) → stored_in_range store ≡ true → IfSome store (λ s. InRange s.settings)
each_stored (Some s) h = each_row s.settings h
each_stored None h = tt

-- ---- at least one is fitted where the board has a place for any, as two tests and as channels
any_fitted_lem : (places fitted : ℕ) → ((place : ℕ) → has places place ≡ true → (c : ℕ) × (has fitted c ≡ true)) → any_fitted places fitted ≡ true
unfolding any_fitted
any_fitted_lem places fitted one =
    cases (eqb places 0)
    (λ e. rw e)
    (λ e. let place = some_channel places (ap not e) in let w = one place.0 place.1 in rw e (not_empty fitted w.0 w.1))

fitted_any : (places fitted : ℕ) → any_fitted places fitted ≡ true → (place : ℕ) → has places place ≡ true → (c : ℕ) × (has fitted c ≡ true)
unfolding any_fitted
fitted_any places fitted e place h = some_channel fitted (one_of (eqb places 0) (not (eqb fitted 0)) (not_empty places place h) e)
  where
    one_of : (none some : Bool) → not none ≡ true → none || some ≡ true → some ≡ true
    one_of true some n e = absurd (false≢true n)
    one_of false some n e = e

-- ---- the rules
pub rules_kept : (p : Profile) (store : Store) → KeepsAllRules p store → keeps_the_rules p store ≡ true
unfolding keeps_the_rules bid_in_range channels_in_place
rules_kept p store k =
    let places = (board_of p.kind).places in
    rw (
      k.kind_served,
      le-leb 1 p.bid (omega arith),
      le-leb p.bid (board_of p.kind).last_bid (omega arith),
      any_fitted_lem places p.fitted k.one_fitted,
      each_within p.fitted places k.fitted_in_place,
      each_within p.forced p.fitted k.forced_fitted,
    )
    (all_stored store k.stored_in_range)

pub kept_rules : (p : Profile) (store : Store) → keeps_the_rules p store ≡ true → KeepsAllRules p store
unfolding keeps_the_rules bid_in_range channels_in_place
kept_rules p store e =
    let places = (board_of p.kind).places in
    let last = (board_of p.kind).last_bid in
    let any = any_fitted places p.fitted in
    let placed = is_within p.fitted places in
    let d = both (is_served p.kind && bid_in_range p && channels_in_place p) (stored_in_range store) e in
    let f = both (is_served p.kind && bid_in_range p) (channels_in_place p) d.0 in
    let g = both (is_served p.kind) (bid_in_range p) f.0 in
    let bid = both (leb 1 p.bid) (leb p.bid last) g.1 in
    let channels = both (any && placed) (is_within p.forced p.fitted) f.1 in
    let fitted = both any placed channels.0 in
    record {
      kind_served = g.0;
      bid_from_1 = omega (arith, leb-true 1 p.bid bid.0);
      bid_to_last = omega (arith, leb-true p.bid last bid.1);
      one_fitted = fitted_any places p.fitted fitted.0;
      fitted_in_place = within_each p.fitted places fitted.1;
      forced_fitted = within_each p.forced p.fitted channels.1;
      stored_in_range = each_stored store d.1;
    }

-- ---- the form
pub form_read : (s : List ℕ) (f : OfTheForm s) → sheet_in s ≡ reads (record { top = f.top; ticks = f.ticks }) (length s)
unfolding sheet_in sheet end
form_read s f =
    rw (
      le-leb (length s) 65536 (omega arith),
      f.top_stands,
      f.ticks_stand,
      f.nothing_behind,
      eq-eqb (length s) (length s) refl,
    )

at_end_lem : (s : List ℕ) (k m : ℕ) (u : Unit {0}) → end s k ≡ reads u m → k ≡ length s
unfolding end
at_end_lem s k m u e = go (eqb k (length s)) refl e
  where
    go : (t : Bool) → eqb k (length s) ≡ t → cond {A = Read (Unit {0})} t (reads tt k) fails ≡ reads u m → k ≡ length s
    go true q e = eqb-true k (length s) q
    go false q e = let z : ◌≡◌ {A = ℕ} 0 1 = cc in absurd (omega arith)

-- what was read is of the form, and it is that sheet
pub read_form : (s : List ℕ) (w : Sheet) (i : ℕ) → sheet_in s ≡ reads w i → OfTheForm s
unfolding sheet_in sheet
read_form s w i e =
    ⊎_elim
    (λ (h : 65536 < length s). let q = rw (lt-leb (length s) 65536 h) at e in let z : ◌≡◌ {A = ℕ} 0 1 = cc in absurd (omega arith))
    (λ (h : length s ≤ 65536).
    let x = rw (le-leb (length s) 65536 h) at e in
    let b = went (head s 0) _ w i x in
    let l = went (times b.what.count (tick_line 256) s b.place) _ w i b.onward in
    let n = went (end s l.place) _ w i l.onward in
    record {
      short = omega arith;
      top = b.what;
      behind_top = b.place;
      top_stands = b.first;
      ticks = l.what;
      behind_ticks = l.place;
      ticks_stand = l.first;
      nothing_behind = at_end_lem s l.place n.place n.what n.first;
    })
    (lt_or_le 65536 (length s))

-- ---- the distribution board is document 01's
pub base_board : BaseBoard
unfolding defaults_of default_n default_of clamp_of at_most at_least low_of high_of row_of find lies read_write_rows read_only_rows column
base_board = record { stid = refl; last_bid = refl; words = refl; places = refl; base_list = refl; enable_bits = refl; enable_key = refl; defaults = refl; started = refl }

pub battery_board : BatteryBoard
unfolding defaults_of default_n default_of clamp_of at_most at_least low_of high_of row_of find lies read_write_rows read_only_rows column
battery_board =
    record {
      stid = λ _. refl;
      last_bid = λ _. refl;
      words = λ _. refl;
      places = λ _. refl;
      codes = λ _. refl;
      defaults = λ _. refl;
      started = λ _. refl;
      abf_placed = λ _. refl;
    }
