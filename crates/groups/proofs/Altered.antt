-- Why the sentences come to that: by going through them, and for the single commands by the order of document 01's
-- checks. Assumes nothing.
use Prim.Native.Nat.{ℕ, suc, ◌<◌}
use mathlib.Core.Path.{◌≡◌, refl, sym, ap, ◌∙◌, subst}
use mathlib.Core.Bool.{Bool, true, false, not, ◌&&◌, and-false, false≢true}
use mathlib.Core.List.{List, [], ◌∷◌}
use lib.Dec.{eqb, ltb}
use lib.IntN.{ℤ}
use native.Mathlib.Omega.{arith}
use borrow.Author.Tests.{ltb-false, eq-eqb}
use Rattle.laws.proofs.Cases.{cases, neither}
use Rattle.kinds.specs.Kinds.{is_in}
use Rattle.modes.specs.Table.{same}
use Rattle.modes.specs.declared.Mode.TheVariants.{Nominal}
use Rattle.modes.specs.declared.Limits.{Limits}
use Rattle.channels.specs.Sets.{has}
use Rattle.channels.specs.Chan.{Chan, chan}
use Rattle.channels.specs.Operations.{on_and_cleared, off_and_cleared, wrong_to_switch_on, wrong_to_switch_off}
use Rattle.channels.specs.declared.Channels.{Channels}
use Rattle.command.specs.Decode.{code_of, byte_after}
use Rattle.command.specs.Checks.{Check, ◌when◌, first, checks}
use Rattle.state.specs.Parts.{mode_of}
use Rattle.state.specs.declared.parts.Board.{Board}
use Rattle.commands.specs.Step.{commanded_of}
use Rattle.asking.specs.Checks.{channel_wrong, checks_of}
use Rattle.commands.proofs.Told.{same_number, number_told}
use Rattle.groups.specs.Groups.{is_fitted, is_command_enabled, obeyed, Answers, Sentence, at◌each◌becomes◌, sentences, made_by, named_by}
use Rattle.groups.specs.Altered.{altering, before, afterwards, Altered}
use Rattle.groups.proofs.Done.{refusing, accepting}
use Rattle.groups.proofs.Groups.{other, Leaves, leaves, groups}

-- a channel that no sentence names
unnamed : (l : List Sentence) (code : ℕ) (ch : Chan) → named_by l code ≡ false → made_by l code ch ≡ ch
unfolding made_by named_by
unnamed [] code ch e = refl
unnamed (at k each named becomes f ∷ rest) code ch e = cases (eqb code k && named) (λ t. absurd (false≢true (sym e ∙ rw t))) (λ t. rw t (unnamed rest code ch (rw t at e)))

-- what is true of a channel, and of what each sentence that names it makes of it, is true of what the sentences make of
-- it
infixr 20 ◌and◌
pub data Makes (P : Chan → Type 0) (code : ℕ) (ch : Chan) : List Sentence → Type 0 where
  none : Makes P code ch []
  ◌and◌ : {k : ℕ} {named : Bool} {f : Chan → Chan} {rest : List Sentence} → ((eqb code k && named) ≡ true → P (f ch)) → Makes P code ch rest → Makes P code ch (at k each named becomes f ∷ rest)

-- by going through the sentences
pub made_so : (P : Chan → Type 0) (code : ℕ) (ch : Chan) (l : List Sentence) → Makes P code ch l → P ch → P (made_by l code ch)
unfolding made_by
made_so P code ch [] none p = p
made_so P code ch (at k each named becomes f ∷ rest) (m and ms) p = cases (eqb code k && named) (λ t. rw t (m t)) (λ t. rw t (made_so P code ch rest ms p))

-- a test that has failed
pub failed : {A : Type 0} → false ≡ true → A
failed e = absurd (false≢true e)

-- checks none of which applies
past : (n : ℕ) (t : Bool) (rest : List Check) → first (suc n when t ∷ rest) ≡ 0 → first rest ≡ 0
unfolding first
past n true rest e = absurd (omega arith)
past n false rest e = e

-- nor does the first of them
none_here : (n : ℕ) (t : Bool) (rest : List Check) → first (suc n when t ∷ rest) ≡ 0 → t ≡ false
unfolding first
none_here n true rest e = absurd (omega arith)
none_here n false rest e = refl

-- what is not false is true
not_false : (x : Bool) → not x ≡ false → x ≡ true
not_false true e = refl
not_false false e = absurd (false≢true (sym e))

module _ (rail : ℤ) (limits : Limits) (s : List ℕ) (b : Board) where
  -- no sentence has a code outside the eight
  no_sentence : is_in (code_of s) altering ≡ false → (c : ℕ) → named_by (sentences b s c) (code_of s) ≡ false
  unfolding is_in altering named_by sentences
  no_sentence out c =
      let no : (k : ℕ) → is_in k altering ≡ true → eqb (code_of s) k ≡ false = λ k here. other (code_of s) k altering out here in
      rw (no 0x10 refl, no 0x12 refl, no 0x14 refl, no 0x16 refl, no 0x18 refl, no 0x04 refl, no 0x32 refl, no 0xAA refl)

  -- the sentence of 0x32 asks for nominal
  not_in_nominal : code_of s ≡ 0x32 → same (mode_of b) Nominal ≡ false → (c : ℕ) → named_by (sentences b s c) (code_of s) ≡ false
  unfolding named_by sentences
  not_in_nominal e n c = rw (e, n)

  -- no sentence but that of 0xAA alters a count
  pub count_made : eqb (code_of s) 0xAA ≡ false → (c : ℕ) (ch : Chan) → (made_by (sentences b s c) (code_of s) ch).count ≡ ch.count
  unfolding sentences
  count_made e c ch =
      made_so (λ x. x.count ≡ ch.count) (code_of s) ch (sentences b s c)
      ((λ _. refl) and (λ _. refl) and (λ _. refl) and (λ _. refl) and (λ _. refl) and (λ _. refl) and (λ _. refl) and (λ _. refl) and (λ _. refl) and (λ t. failed (rw e at t)) and none)
      refl

  -- no sentence but that of 0xAA turns a forced channel off: the others that turn off ask for command-enabled
  on_made : eqb (code_of s) 0xAA ≡ false → (c : ℕ) (ch : Chan) → has b.profile.forced c ≡ true → ch.on ≡ true → (made_by (sentences b s c) (code_of s) ch).on ≡ true
  unfolding sentences
  on_made e c ch g o =
      made_so (λ x. x.on ≡ true) (code_of s) ch (sentences b s c)
      ((λ _. refl)
      and (λ t. failed (simp (g, and-false) at t))
      and (λ _. refl)
      and (λ t. failed (simp (g, and-false) at t))
      and (λ _. refl)
      and (λ _. refl)
      and (λ t. failed (simp (g, and-false) at t))
      and (λ t. failed (simp (g, and-false) at t))
      and (λ t. failed (simp (g, and-false) at t))
      and (λ t. failed (rw e at t))
      and none)
      o

  -- an accepted command has passed the check of its channel
  channel_right : Answers rail limits s b 0 → channel_wrong (code_of s) b.profile (byte_after s) ≡ false
  unfolding commanded_of checks_of checks
  channel_right a =
      let z : first (checks_of rail limits b s) ≡ 0 = same_number _ 0 (sym (number_told rail limits s b) ∙ a) in
      none_here 6 _ _ (past 6 _ _ (past 4 _ _ (past 6 _ _ (past 6 _ _ (past 5 _ _ (past 4 _ _ (past 3 _ _ (past 2 _ _ (past 1 _ _ (past 0 _ _ z))))))))))

  -- a channel that is not wrong to switch on is there and fitted; one that is not wrong to switch off is
  -- command-enabled too
  right_on : wrong_to_switch_on b.profile.fitted (byte_after s) ≡ false → (byte_after s < 32) × (is_fitted b s (byte_after s) ≡ true)
  right_on w =
      let n = neither (ltb 31 (byte_after s)) (not (has b.profile.fitted (byte_after s))) w in
      (omega (arith, ltb-false 31 (byte_after s) n.0), not_false (has b.profile.fitted (byte_after s)) n.1)

  -- as above, with the forced channels wrong too
  right_off : wrong_to_switch_off b.profile.fitted b.profile.forced (byte_after s) ≡ false → (byte_after s < 32) × (is_command_enabled b s (byte_after s) ≡ true)
  right_off w =
      let n = neither (wrong_to_switch_on b.profile.fitted (byte_after s)) (has b.profile.forced (byte_after s)) w in
      let r = right_on n.0 in
      (r.0, rw (r.1, n.1))

  -- what 0x16 makes of its channel
  made_on : (code : ℕ) (ch : Chan) → code ≡ 0x16 → is_fitted b s (byte_after s) ≡ true → made_by (sentences b s (byte_after s)) code ch ≡ on_and_cleared ch
  unfolding made_by sentences
  made_on code ch e f = rw (e, f, eq-eqb (byte_after s) (byte_after s) refl)

  -- what 0x18 makes of its channel
  made_off : (code : ℕ) (ch : Chan) → code ≡ 0x18 → is_command_enabled b s (byte_after s) ≡ true → made_by (sentences b s (byte_after s)) code ch ≡ off_and_cleared ch
  unfolding made_by sentences
  made_off code ch e f = rw (e, f, eq-eqb (byte_after s) (byte_after s) refl)

  -- so an accepted 0x16 turns its channel on
  switched_on : Answers rail limits s b 0 → code_of s ≡ 0x16
      → (byte_after s < 32) × (is_fitted b s (byte_after s) ≡ true) × (afterwards rail limits s b (byte_after s) ≡ on_and_cleared (before rail limits s b (byte_after s)))
  unfolding channel_wrong
  switched_on a e =
      let r = right_on (rw e at (channel_right a)) in
      (r.0, r.1, (groups rail limits s b).accepted a (byte_after s) r.0 ∙ made_on (code_of s) _ e r.1)

  -- and an accepted 0x18 turns its channel off
  switched_off : Answers rail limits s b 0 → code_of s ≡ 0x18
      → (byte_after s < 32) × (is_command_enabled b s (byte_after s) ≡ true) × (afterwards rail limits s b (byte_after s) ≡ off_and_cleared (before rail limits s b (byte_after s)))
  unfolding channel_wrong
  switched_off a e =
      let r = right_off (rw e at (channel_right a)) in
      (r.0, r.1, (groups rail limits s b).accepted a (byte_after s) r.0 ∙ made_off (code_of s) _ e r.1)

  -- what is true of a channel before the command, and after it where it is accepted, is true after it
  after_refusal : (P : Chan → Type 0) (c : ℕ) {k : ℕ} → Leaves rail limits s b k (obeyed rail limits s b) → P (before rail limits s b c)
      → ((Answers rail limits s b 0) → P (afterwards rail limits s b c)) → P (afterwards rail limits s b c)
  after_refusal P c (refusing n t kept) p q = subst (λ (x : Channels). P (chan x c)) (sym kept.channels) p
  after_refusal P c (accepting t made) p q = q t

  -- the claim
  pub altered : Altered rail limits s b
  altered =
      let g = groups rail limits s b in
      record {
        only_named = λ a c h e. g.accepted a c h ∙ unnamed (sentences b s c) (code_of s) (chan b.channels c) e;
        no_other_command = λ a out c h. g.accepted a c h ∙ unnamed (sentences b s c) (code_of s) (chan b.channels c) (no_sentence out c);
        no_effect_in_safety = λ a e n c h. g.accepted a c h ∙ unnamed (sentences b s c) (code_of s) (chan b.channels c) (not_in_nominal e n c);
        counts_stay = λ e c h.
            after_refusal (λ x. x.count ≡ (before rail limits s b c).count) c (leaves rail limits s b) refl
            (λ a. ap (λ (x : Chan). x.count) (g.accepted a c h) ∙ count_made e c (chan b.channels c));
        forced_stay_on = λ e c h f o.
            after_refusal (λ x. x.on ≡ true) c (leaves rail limits s b) o
            (λ a. ap (λ (x : Chan). x.on) (g.accepted a c h) ∙ on_made e c (chan b.channels c) f o);
        one_on = switched_on;
        one_off = switched_off;
      }
