-- Why 0x44 shows whether the ABF is placed: only a battery board's list has it, its effect lays out what the profile
-- says, and `Battery` of `replies` says where. Assumes nothing.
use Prim.Native.Nat.{ℕ}
use mathlib.Core.Path.{◌≡◌, refl, ap, ◌∙◌}
use mathlib.Core.Bool.{true, false≢true}
use mathlib.Core.List.{List, [], ◌∷◌}
use lib.ListN.{length, get_or}
use Rattle.kinds.specs.Kinds.{board_of, is_in}
use Rattle.kinds.specs.declared.Kind.{Kind}
use Rattle.kinds.specs.declared.Kind.TheVariants.{Distribution, Battery, Integrated}
use Rattle.wire.specs.Replies.{shown}
use Rattle.replies.specs.Layouts.{abf_reply}
use Rattle.replies.proofs.Battery.{length_abf, shown_abf, abf_stat, abf_at}
use Rattle.answers.specs.Answers.{header_of, new}
use Rattle.unit.specs.declared.Machine.{Machine}
use Rattle.unit.specs.Runs.{Sample}
use Rattle.changes.specs.Accepted.{accepts_one_of}
use Rattle.changes.specs.ReadingsShown.{bytes_shown}
use Rattle.changes.specs.AbfShown.{ShowsAbf, AbfShown}
use Rattle.changes.proofs.Readings.{has_code, abf_reply_is}

-- a board whose list has 0x44 is a battery board
a_battery_board : (kind : Kind) → is_in 0x44 (board_of kind).codes ≡ true → kind ≡ Battery (board_of kind).abf_placed
unfolding is_in
a_battery_board Distribution h = absurd (false≢true h)
a_battery_board (Battery abf) h = refl
a_battery_board (Integrated daughterboard) h = absurd (false≢true h)

module _ (m : Machine) (i : Sample) where
  shows : accepts_one_of (0x44 ∷ []) m i ≡ true → ShowsAbf m i
  shows a =
      let header = header_of m.board.profile in
      let placed = (board_of m.board.profile.kind).abf_placed in
      let is : bytes_shown m i ≡ abf_reply header 0x44 new placed = ap shown (abf_reply_is m i a) ∙ shown_abf header 0x44 new placed in
      let at : (p x : ℕ) → get_or (abf_reply header 0x44 new placed) p 0 ≡ x → get_or (bytes_shown m i) p 0 ≡ x =
      λ p x e. ap (λ (l : List ℕ). get_or l p 0) is ∙ e in
      record {
        placed = placed;
        profile = a_battery_board m.board.profile.kind (has_code m i 0x44 a);
        bytes = ap length is ∙ length_abf header 0x44 new placed;
        stat = at 4 0x80 (abf_stat header 0x44 new placed).0;
        reserved = at 5 0 (abf_stat header 0x44 new placed).1;
        placed_0 = at 6 _ (abf_at header 0x44 new placed).0;
        placed_1 = at 7 _ (abf_at header 0x44 new placed).1;
      }

  -- the claim
  pub abf_shown : AbfShown m i
  abf_shown = record { shows = shows }
