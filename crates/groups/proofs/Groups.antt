-- Why a command alters the channels that document 01 names for it and no others: `Done` says which operation each code
-- is, the laws of `channels` what that makes of one channel, and that is what the sentences say. Assumes nothing.
use Prim.Native.Nat.{ℕ, suc, ◌<◌}
use mathlib.Core.Path.{◌≡◌, refl, sym, ap, ◌∙◌, subst}
use mathlib.Core.Bool.{Bool, true, false, cond, not, ◌&&◌, and-true, and-false, false≢true}
use mathlib.Core.List.{List}
use lib.Dec.{eqb, ltb}
use lib.IntN.{ℤ}
use lib.ListN.{length, replicate}
use native.Mathlib.Omega.{arith}
use borrow.Author.Tests.{eqb-true}
use Rattle.laws.proofs.Cases.{cases}
use Rattle.kinds.specs.Kinds.{is_in}
use Rattle.wire.specs.Numbers.{number}
use Rattle.modes.specs.Table.{same}
use Rattle.modes.specs.declared.Mode.{Mode}
use Rattle.modes.specs.declared.Mode.TheVariants.{Startup, Nominal, Safety}
use Rattle.modes.specs.declared.Limits.{Limits}
use Rattle.channels.specs.Sets.{has, bit, all_below}
use Rattle.channels.specs.Chan.{Chan, chan}
use Rattle.channels.specs.Operations.{on_and_cleared, off_and_cleared, group_state_one, command_enabled, force_enabled}
use Rattle.channels.specs.declared.Channels.{Channels}
use Rattle.channels.proofs.Sets.{all_below_each}
use Rattle.channels.proofs.Whole.{Held}
use Rattle.channels.proofs.Laws as channel
use Rattle.command.specs.Decode.{code_of, group_in}
use Rattle.memory.specs.declared.Memory.{Memory}
use Rattle.state.specs.Start.{fresh_of, command_reset_of}
use Rattle.state.specs.declared.parts.Board.{Board}
use Rattle.answers.specs.declared.Commanded.{Commanded}
use Rattle.commands.specs.Step.{commanded_of}
use Rattle.groups.specs.Groups.{mask_in, is_spoken_of, sentences, made_by, Groups}
use Rattle.groups.proofs.Done.{acting, operated, Operates, group_on, group_off, group_state, channel_on, channel_off, cancel, in_nominal, into_nominal, in_safety, into_safety, Remembers, set, reset_one, defaults, load, save}
use Rattle.groups.proofs.Done.{Done, replies, shows_faults, operates, enters, remembers, restarts, Answers, refusing, accepting, hence, does}

-- ---- the mask of a transfer, and the channels that it speaks of, are the decoder's
mask_is : (s : List ℕ) → (group_in s).mask ≡ mask_in s
unfolding group_in
mask_is s = cases (ltb (length s) 8) (λ e. rw e) (λ e. rw e)

-- tests with the same bit are the same
same_bit : (x y : Bool) → eqb (bit x) (bit y) ≡ true → x ≡ y
same_bit true true e = refl
same_bit true false e = absurd (false≢true e)
same_bit false true e = absurd (false≢true e)
same_bit false false e = refl

-- a transfer of six bytes and one of eight, worked out for each channel
abbrev AgreeOn : List ℕ → Type 0
AgreeOn s = all_below 32 (λ c. eqb (bit (has (group_in s).spoken c)) (bit (is_spoken_of s c))) ≡ true

-- two bytes of mask
agree_on_six : AgreeOn (replicate 6 0)
unfolding all_below has group_in number
agree_on_six = refl

-- four bytes of mask
agree_on_eight : AgreeOn (replicate 8 0)
unfolding all_below has group_in number
agree_on_eight = refl

-- and every transfer speaks of what one of those two does
spoken_is : (s : List ℕ) (c : ℕ) → c < 32 → has (group_in s).spoken c ≡ is_spoken_of s c
unfolding group_in
spoken_is s c h =
    cases (ltb (length s) 8)
    (λ short. rw short (same_bit _ _ (all_below_each 32 _ agree_on_six c h)))
    (λ long. rw long (same_bit _ _ (all_below_each 32 _ agree_on_eight c h)))

-- what 0x14 makes of a channel is what its three sentences make of it
state_is : (f g s m : Bool) (ch : Chan)
    → group_state_one f g s m ch
    ≡ cond (command_enabled f g && s && m) (on_and_cleared ch) (cond (command_enabled f g && s && not m) (off_and_cleared ch) (cond (force_enabled f g && s && m) (on_and_cleared ch) ch))
state_is false g s m ch = refl
state_is true true s m ch = refl
state_is true false false m ch = refl
state_is true false true true ch = refl
state_is true false true false ch = refl

-- a mode that is not startup
no_startup : {A : Type 0} (m : Mode) → same m Startup ≡ false → m ≡ Startup → A
no_startup m f e = absurd (false≢true (sym f ∙ ap (λ (x : Mode). same x Startup) e))

-- a code that is not in a list is none of those that are
pub other : (k one : ℕ) (codes : List ℕ) → is_in k codes ≡ false → is_in one codes ≡ true → eqb k one ≡ false
other k one codes out here = cases (eqb k one) (λ e. absurd (false≢true (sym out ∙ ap (λ (x : ℕ). is_in x codes) (eqb-true k one e) ∙ here))) (λ e. e)

module _ (rail : ℤ) (limits : Limits) (s : List ℕ) (b : Board) where
  -- the board of an accepted command of code k has each channel as the sentences say; only 0xAA is a reset, and nothing
  -- else leads into startup
  pub record Made (k : ℕ) (after : Board) : Type 0 where
    pub one_by_one : (c : ℕ) → c < 32 → chan after.channels c ≡ made_by (sentences b s c) k (chan b.channels c)
    pub held : Held b.channels → Held after.channels
    pub no_reset : eqb k 0xAA ≡ false → after.phase.mode ≡ Startup → after.phase ≡ b.phase
    pub reset : eqb k 0xAA ≡ true → after ≡ command_reset_of b

  abbrev pub Leaves : ℕ → Commanded → Type 0
  Leaves k c = Answers rail limits s b (Made k) c

  -- the profile's two sets
  abbrev fitted : ℕ
  fitted = b.profile.fitted

  -- those that are force-enabled
  abbrev forced : ℕ
  forced = b.profile.forced

  -- ---- the commands on channels
  sentence_of : {k : ℕ} {o : channel.Command} → Operates rail limits s b k o → (c : ℕ) → c < 32 → (ch : Chan) → channel.obeyed_one fitted forced o c ch ≡ made_by (sentences b s c) k ch
  unfolding made_by sentences
  sentence_of group_on c h ch = rw (spoken_is s c h, mask_is s)
  sentence_of group_off c h ch = rw (spoken_is s c h, mask_is s) (cases (has forced c) (λ f. simp (f, and-false)) (λ f. simp f))
  sentence_of group_state c h ch = rw (spoken_is s c h, mask_is s) (state_is (has fitted c) (has forced c) (is_spoken_of s c) (has (mask_in s) c) ch)
  sentence_of channel_on c h ch = rw and-true
  sentence_of channel_off c h ch = rw and-true
  sentence_of cancel c h ch = refl

  -- none of them is the reset
  no_restart : {k : ℕ} {o : channel.Command} → Operates rail limits s b k o → eqb k 0xAA ≡ false
  no_restart group_on = refl
  no_restart group_off = refl
  no_restart group_state = refl
  no_restart channel_on = refl
  no_restart channel_off = refl
  no_restart cancel = refl

  -- channels after one of the laws' commands
  by_operation : (k : ℕ) (o : channel.Command) (after : Board) → after.channels ≡ operated rail limits s b o → (after.phase.mode ≡ Startup → after.phase ≡ b.phase)
      → ((c : ℕ) → c < 32 → channel.obeyed_one fitted forced o c (chan b.channels c) ≡ made_by (sentences b s c) k (chan b.channels c)) → eqb k 0xAA ≡ false → Made k after
  by_operation k o after e starts says n =
      record {
        one_by_one = λ c h. ap (λ (x : Channels). chan x c) e ∙ channel.each fitted forced (channel.commanded o) b.channels c h ∙ says c h;
        held = λ _. subst Held (sym e) (channel.after_held fitted forced (channel.commanded o) b.channels);
        no_reset = λ _. starts;
        reset = λ r. absurd (false≢true (sym n ∙ r));
      }

  -- ---- the commands that alter no channel
  abbrev NoSentence : ℕ → Type 0
  NoSentence k = (c : ℕ) → made_by (sentences b s c) k (chan b.channels c) ≡ chan b.channels c

  -- channels that stay, for a command that no sentence is about
  untouched : (k : ℕ) (after : Board) → after.channels ≡ b.channels → (after.phase.mode ≡ Startup → after.phase ≡ b.phase) → NoSentence k → eqb k 0xAA ≡ false → Made k after
  untouched k after same_channels starts e n =
      record {
        one_by_one = λ c h. ap (λ (x : Channels). chan x c) same_channels ∙ sym (e c);
        held = λ h. subst Held (sym same_channels) h;
        no_reset = λ _. starts;
        reset = λ r. absurd (false≢true (sym n ∙ r));
      }

  -- those that only reply
  quiet_code : (k : ℕ) → is_in k acting ≡ false → NoSentence k
  unfolding made_by sentences is_in
  quiet_code k quiet c =
      let no : (one : ℕ) → is_in one acting ≡ true → eqb k one ≡ false = λ one here. other k one acting quiet here in
      rw (no 0x10 refl, no 0x12 refl, no 0x14 refl, no 0x16 refl, no 0x18 refl, no 0x04 refl, no 0x32 refl, no 0xAA refl)

  -- those on settings
  remembering : {k : ℕ} {m : Memory} (after : Board) → Remembers rail limits s b k m → after.channels ≡ b.channels → after.phase ≡ b.phase → Made k after
  unfolding made_by sentences
  remembering after (set id v) c e = untouched 0x84 after c (λ _. e) (λ _. refl) refl
  remembering after (reset_one id) c e = untouched 0x86 after c (λ _. e) (λ _. refl) refl
  remembering after defaults c e = untouched 0x90 after c (λ _. e) (λ _. refl) refl
  remembering after load c e = untouched 0x92 after c (λ _. e) (λ _. refl) refl
  remembering after (save given) c e = untouched 0x94 after c (λ _. e) (λ _. refl) refl

  -- ---- every command
  made : {k : ℕ} {after : Board} → Done rail limits s b k after → Made k after
  unfolding made_by sentences is_in command_reset_of fresh_of
  made {k} (replies r w quiet) = untouched k _ refl (λ _. refl) (quiet_code k quiet) (other k 0xAA acting quiet refl)
  made shows_faults = untouched 0x42 _ refl (λ _. refl) (λ c. refl) refl
  made {k} (operates {o = o} r x) = by_operation k o _ refl (λ _. refl) (λ c h. sentence_of x c h _) (no_restart x)
  made (enters r (in_nominal e)) = untouched 0x30 _ refl (λ _. refl) (λ c. refl) refl
  made (enters r (into_nominal e)) = untouched 0x30 _ refl (λ m. no_startup Nominal refl m) (λ c. refl) refl
  made (enters r (in_safety n e)) = untouched 0x32 _ refl (λ _. refl) (λ c. rw n) refl
  made (enters r (into_safety n e)) = by_operation 0x32 channel.turn_command_enabled_off _ refl (λ m. no_startup Safety refl m) (λ c h. rw n) refl
  made (remembers r x) = remembering _ x refl refl
  made restarts =
      record {
        one_by_one = λ c h. channel.cleared_each c h;
        held = λ _. channel.cleared_held;
        no_reset = λ r. absurd (false≢true (sym r));
        reset = λ _. refl;
      }

  -- ---- every transfer
  pub leaves : Leaves (code_of s) (commanded_of rail limits true s b)
  leaves = hence rail limits s b (Made (code_of s)) (λ after done. made done) (does rail limits s b)

-- ---- the claim
pub groups : (rail : ℤ) (limits : Limits) (s : List ℕ) (b : Board) → Groups rail limits s b
unfolding commanded_of
groups rail limits s b = go (leaves rail limits s b)
  where
    go : Leaves rail limits s b (code_of s) (commanded_of rail limits true s b) → Groups rail limits s b
    go (refusing n t kept) = record { answered = (suc n, t); accepted = λ a. absurd (let z : ◌≡◌ {A = ℕ} 0 (suc n) = cc in omega arith); refused = λ m a. kept.channels; no_transfer = refl }
    go (accepting t made) = record { answered = (0, t); accepted = λ a. made.one_by_one; refused = λ m a. absurd (let z : ◌≡◌ {A = ℕ} 0 (suc m) = cc in omega arith); no_transfer = refl }
