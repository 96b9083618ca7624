-- What the reader of a tick line answers, taken back to the line: its tick, and the bytes of its transfer at the front
-- of the buffer. Assumes nothing.
use Prim.Native.Nat.{ℕ, ◌≤◌}
use mathlib.Core.Path.{◌≡◌, refl, ap, sym, ◌∙◌}
use mathlib.Core.Bool.{Bool, true, false, cond}
use mathlib.Core.List.{List}
use native.Mathlib.Omega.{arith}
use lib.IntN.{ℤ}
use lib.ListN.{length, take, drop}
use lib.Seq.{take_at}
use borrow.Author.Tests.{leb-true, le-leb}
use Rattle.grammar.specs.Grammar.{Read, fails, reads, on}
use Rattle.std.specs.Prelude.{Ok, Err, is_some}
use Rattle.hexadecimal.specs.Hex.{laid}
use Rattle.sheet.specs.Form.{where_true, Transfer, silence, bytes, bytes_of, Tick, any_tick_line, within, tick_line}
use Rattle.sheet.specs.Answers.{is_sent, sent_length, line_by, tick_of, tick_held}
use Rattle.sheet.specs.declared.ticks.TickLine.{TickLine}
use Rattle.sheet.specs.declared.ticks.TickRefusal.{TickRefusal}
use Rattle.session.specs.Sessions.{first_sent}

-- ---- a line whose transfer has at most so many bytes, from one whose transfer has any
module _ (most : ℕ) (s : List ℕ) where
  abbrev limited : Read Tick → Read Tick
  limited r = on r (λ tick j. on (where_true (within most tick) s j) (λ u k. reads tick k))

  -- ---- the tick behind an answer
  pub record Read_tick (line any : Read Tick) (told : TickLine) : Type 0 where
    pub tick : Tick
    pub is : line ≡ reads tick told.next
    pub is_any : any ≡ reads tick told.next
    pub short : length (bytes_of tick.transfer) ≤ most
    pub its_line : line_by tick told.next ≡ told

  behind : (r : Read Tick) (told : TickLine) → Ok told ≡ tick_of most r → Read_tick (limited r) r told
  behind fails told e = let z : ◌≡◌ {A = ℕ} 0 1 = cc in absurd (omega arith)
  behind (reads t j) told e = go (within most t) refl e
    where
      go : (b : Bool) → within most t ≡ b → Ok told ≡ cond b (Ok (line_by t j)) (Err TickRefusal.TransferTooLong)
          → Read_tick (on (where_true b s j) (λ u k. reads t k)) (reads t j) told
      go true w e =
          let same : line_by t j ≡ told = cc in
          let next : j ≡ told.next = ap (λ (l : TickLine). l.next) same in
          record { tick = t; is = ap (reads t) next; is_any = ap (reads t) next; short = leb-true (length (bytes_of t.transfer)) most w; its_line = ap (line_by t) (sym next) ∙ same }
      go false w e = let z : ◌≡◌ {A = ℕ} 0 1 = cc in absurd (omega arith)

  -- no tick behind a refusal
  refused : (r : Read Tick) (e : TickRefusal) → Err e ≡ tick_of most r → limited r ≡ fails
  refused fails f e = refl
  refused (reads t j) f e = go (within most t) e
    where
      go : (b : Bool) → Err f ≡ cond b (Ok (line_by t j)) (Err TickRefusal.TransferTooLong) → on (where_true b s j) (λ u k. reads t k) ≡ fails
      go true e = let z : ◌≡◌ {A = ℕ} 0 1 = cc in absurd (omega arith)
      go false e = refl

  module _ (i : ℕ) where
    pub read_tick : (told : TickLine) → Ok told ≡ tick_of most (any_tick_line s i) → Read_tick (tick_line most s i) (any_tick_line s i) told
    unfolding tick_line
    read_tick told e = behind (any_tick_line s i) told e

    pub no_tick : (f : TickRefusal) → Err f ≡ tick_of most (any_tick_line s i) → tick_line most s i ≡ fails
    unfolding tick_line
    no_tick f e = refused (any_tick_line s i) f e

-- the bytes of its transfer, of which there are no more than the buffer takes
pub transfer_held : (s : List ℕ) (i : ℕ) (held : List ℕ) (t : Tick) (j : ℕ) → any_tick_line s i ≡ reads t j → length (bytes_of t.transfer) ≤ length held
    → first_sent (sent_length t.transfer) (tick_held (any_tick_line s i) held) ≡ bytes_of t.transfer
transfer_held s i held t j e short = rw e (go t.transfer short)
  where
    go : (sent : Transfer) → length (bytes_of sent) ≤ length held → first_sent (sent_length sent) (laid (bytes_of sent) held) ≡ bytes_of sent
    go silence short = refl
    go (bytes bs) short = rw (le-leb (length bs) (length held) short) (take_at bs (drop (length bs) held) (length bs) refl)

-- whether one was sent
pub sent_told : (sent : Transfer) → is_some (sent_length sent) ≡ is_sent sent
sent_told silence = refl
sent_told (bytes bs) = refl
