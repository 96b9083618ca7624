-- Why words are new just so: step 1 makes both memories true where words come, steps 2 and 3 leave them, an accepted
-- 0x50, 0x52, 0x60 or 0x62 tells its own and ends it, and a reset ends both. Assumes nothing.
use Prim.Native.Nat.{ℕ, ◌%◌}
use mathlib.Core.Path.{◌≡◌, refl, sym, ap, ◌∙◌}
use mathlib.Core.Bool.{Bool, true, false, cond, ◌||◌, false≢true}
use mathlib.Core.List.{[], ◌∷◌}
use lib.Dec.{eqb}
use lib.ListN.{get_or}
use Rattle.laws.proofs.Cases.{cases, neither}
use Rattle.kinds.specs.Kinds.{board_of, is_in}
use Rattle.kinds.specs.declared.Kind.TheVariants.{Distribution}
use Rattle.wire.specs.Replies.{shown, reply_of}
use Rattle.wire.specs.declared.reply.Reply.{Reply}
use Rattle.command.specs.Decode.{code_of}
use Rattle.memory.specs.Limits.{limits_of}
use Rattle.replies.proofs.Measured.{stat_shown_lem}
use Rattle.replies.proofs.Battery.{battery_stat_shown}
use Rattle.state.specs.Start.{none_new}
use Rattle.state.specs.declared.parts.Board.{Board}
use Rattle.state.specs.declared.parts.Fresh.{Fresh}
use Rattle.state.specs.declared.parts.Measured.{Measured}
use Rattle.answers.specs.Answers.{told_number, header_of}
use Rattle.effects.specs.Effects.{new_where}
use Rattle.board.specs.Tick.{both_new, brought_by, risen_of, changed_of, tripped_of}
use Rattle.unit.specs.declared.Machine.{Machine}
use Rattle.unit.specs.Runs.{Sample, told, after_step3}
use Rattle.groups.specs.Resets.{is_accepted, tells_watchdog_reset, tells_command_reset, tells_reset}
use Rattle.groups.proofs.Resets.{reset_is_told}
use Rattle.changes.specs.Accepted.{accepts_one_of}
use Rattle.changes.specs.NewReadings.{brings, stat_shown, NewBy, NewReadings}
use Rattle.changes.proofs.Ticks.{leaves_all, tells, leaves_step_4}
use Rattle.changes.proofs.Readings.{Part, as_raw, in_units, Owner, distribution, battery, code_for, codes_for, is_new, words_for, stat_for, bytes_for, new_after_lem, has_code, reply_is}

-- words that come are new as either
new_as : (p : Part) → is_new p both_new ≡ true
new_as as_raw = refl
new_as in_units = refl

-- STAT has room for the flag, and is byte 4 of either board's reply
one_byte : (fresh : Bool) → new_where fresh % 256 ≡ cond fresh 0x80 0x00
one_byte true = refl
one_byte false = refl

stat_of : (o : Owner) (p : Part) (b : Board) → get_or (shown (reply_of (bytes_for o p b))) 4 0 ≡ cond (is_new p b.measured.fresh) 0x80 0x00
stat_of distribution p b =
    stat_shown_lem (header_of b.profile) (code_for distribution p) (stat_for p b) b.channels.on b.channels.latched (words_for distribution p b)
    ∙ one_byte (is_new p b.measured.fresh)
stat_of battery p b =
    battery_stat_shown (header_of b.profile) (code_for battery p) (stat_for p b) (words_for battery p b) ∙ one_byte (is_new p b.measured.fresh)

module _ (m : Machine) (i : Sample) where
  -- what the command finds
  found : (p : Part) → is_new p (after_step3 m i).measured.fresh ≡ (brings m i || is_new p m.board.measured.fresh)
  unfolding tripped_of changed_of risen_of brought_by
  found p = cases (brings m i) (λ e. rw e (new_as p)) (λ e. rw e)

  -- STAT, where the tick accepts a code of this way
  stat_by : (p : Part) (o : Owner) → accepts_one_of (code_for o p ∷ []) m i ≡ true → stat_shown m i ≡ cond (brings m i || is_new p m.board.measured.fresh) 0x80 0x00
  stat_by p o a = ap (λ (r : Reply). get_or (shown r) 4 0) (reply_is m i o p a) ∙ stat_of o p (after_step3 m i) ∙ rw (found p)

  -- one of two codes is the first or the second
  either : (Q : Type 0) (j k : ℕ) → (accepts_one_of (j ∷ []) m i ≡ true → Q) → (accepts_one_of (k ∷ []) m i ≡ true → Q) → accepts_one_of (j ∷ k ∷ []) m i ≡ true → Q
  unfolding is_in
  either Q j k first second a = cases (eqb (code_of i.transfer) j) (λ e. first (rw e (rw e at a))) (λ e. second (rw e at a))

  -- the codes of either way, with its memory
  new_by : (p : Part) → NewBy (codes_for p) (is_new p) m i
  unfolding tells_reset tells_command_reset
  new_by p =
      record {
        after = λ a r.
            let w = neither (tells_watchdog_reset m i) _ r in
            ap (λ (b : Board). is_new p b.measured.fresh) (leaves_step_4 m i a w.0)
            ∙ new_after_lem i.rail (limits_of m.board.memory) i.transfer (after_step3 m i) p i.sent (rw (tells m i a) at w.1)
            ∙ rw (found p, tells m i a);
        shown_new = either _ (code_for distribution p) (code_for battery p) (stat_by p distribution) (stat_by p battery);
      }

  -- a reset leaves no new words
  reset : tells_reset m i ≡ true → (told m i).machine.board.measured.fresh ≡ none_new
  unfolding tells_reset
  reset r =
      cases (tells_watchdog_reset m i)
      (λ w. ap (λ (x : Measured). x.fresh) ((reset_is_told m i).watchdog_parts w).words)
      (λ w. ap (λ (x : Measured). x.fresh) ((reset_is_told m i).command_parts (rw w at r)).words)

  -- the claim
  pub new_readings : NewReadings m i
  new_readings =
      record {
        raw = new_by as_raw;
        engineering = new_by in_units;
        listed = has_code m i;
        reset = reset;
        not_happened = λ a. ap (λ (b : Board). b.measured.fresh) (leaves_all m i a);
      }

-- ---- of a board that has not the second code of a pair the claim says what it would say of the first alone
module _ (m : Machine) (i : Sample) (claim : NewReadings m i) (j k : ℕ) (lacks : is_in k (board_of m.board.profile.kind).codes ≡ false) where
  -- the second is never accepted
  first_alone : accepts_one_of (j ∷ k ∷ []) m i ≡ accepts_one_of (j ∷ []) m i
  unfolding is_in
  first_alone =
      cases (is_accepted (told_number (told m i).outcome))
      (λ a. cases (eqb (code_of i.transfer) k)
      (λ e. absurd (false≢true (sym lacks ∙ claim.listed k (rw (a, e)))))
      (λ e. rw (a, e)))
      (λ a. rw a)

  pub by_first : (memory : Fresh → Bool) → NewBy (j ∷ k ∷ []) memory m i → NewBy (j ∷ []) memory m i
  by_first memory both = record { after = λ a r. rw (← first_alone) (both.after a r); shown_new = λ a. both.shown_new (first_alone ∙ a) }

-- so it does of a distribution board, of 0x50 and of 0x52
module _ (m : Machine) (i : Sample) (claim : NewReadings m i) (kind : m.board.profile.kind ≡ Distribution) where
  pub raw_by_0x50 : NewBy (0x50 ∷ []) (λ f. f.raw) m i
  unfolding is_in
  raw_by_0x50 = by_first m i claim 0x50 0x60 (rw kind) (λ f. f.raw) claim.raw

  pub engineering_by_0x52 : NewBy (0x52 ∷ []) (λ f. f.engineering) m i
  unfolding is_in
  engineering_by_0x52 = by_first m i claim 0x52 0x62 (rw kind) (λ f. f.engineering) claim.engineering
