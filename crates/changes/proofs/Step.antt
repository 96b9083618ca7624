-- What the command step makes of timer, mode, memory and reply, for every board and every transfer, by what each
-- command does. Assumes nothing.
use Prim.Native.Nat.{ℕ}
use mathlib.Core.Path.{◌≡◌, refl, sym, ap, ◌∙◌, subst}
use mathlib.Core.Bool.{Bool, true, false, false≢true}
use mathlib.Core.List.{List, [], ◌∷◌}
use mathlib.Core.Option.{some}
use Rattle.std.specs.Prelude.{Option, Some}
use lib.Dec.{eqb}
use lib.IntN.{ℤ}
use Rattle.kinds.specs.Kinds.{is_in}
use Rattle.wire.specs.Replies.{reply_of}
use Rattle.modes.specs.declared.ModeAge.{ModeAge}
use Rattle.modes.specs.Commands.{to_safety, to_nominal, leaves}
use Rattle.modes.specs.declared.Limits.{Limits}
use Rattle.channels.proofs.Laws as channel
use Rattle.command.specs.Decode.{code_of}
use Rattle.memory.specs.Memory.{load_of}
use Rattle.memory.specs.declared.Memory.{Memory}
use Rattle.memory.proofs.Laws.{load_leaves_store, set_leaves_store, reset_leaves_store, defaults_leave_store, save_leaves_current}
use Rattle.replies.specs.Layouts.{faults_reply}
use Rattle.state.specs.Start.{fresh_of, command_reset_of}
use Rattle.state.specs.declared.parts.Board.{Board}
use Rattle.answers.specs.Answers.{told_number, header_of, new}
use Rattle.answers.specs.declared.Commanded.{Commanded}
use Rattle.commands.specs.Step.{commanded_of}
use Rattle.groups.specs.Resets.{is_accepted}
use Rattle.groups.proofs.Done.{acting, Operates, group_on, group_off, group_state, channel_on, channel_off, cancel, in_nominal, into_nominal, in_safety, into_safety, Remembers, set, reset_one, defaults, load, save}
use Rattle.groups.proofs.Done.{Done, replies, shows_faults, operates, enters, remembers, restarts, Left, Answers, refusing, accepting, does}
use Rattle.groups.proofs.Groups.{other}
use Rattle.groups.proofs.Counts.{not_accepted}
use Rattle.changes.specs.SettingsChange.{setting_commands, saving_commands}
use Rattle.changes.specs.ModeChange.{mode_commands}
use Rattle.changes.proofs.Ranges as ranges
use Rattle.changes.proofs.Ranges.{InRange, loaded, set_one, defaulted, saved}

-- a test that came to both
pub both : {A : Type 0} {t : Bool} → t ≡ false → t ≡ true → A
both f e = absurd (false≢true (sym f ∙ e))

-- the commands that may move the mode, or show the counts
abbrev moving : List ℕ
moving = 0x30 ∷ 0x32 ∷ 0x42 ∷ []

module _ (rail : ℤ) (limits : Limits) (s : List ℕ) (b : Board) where
  -- the board of an accepted command of code k
  pub record Obeyed (k : ℕ) (after : Board) : Type 0 where
    pub timer : after.timer ≡ 0
    pub phase : is_in k mode_commands ≡ false → eqb k 0xAA ≡ false → after.phase ≡ b.phase
    pub nominal : eqb k 0x30 ≡ true → after.phase ≡ leaves (to_nominal b.phase rail limits) b.phase
    pub safety : eqb k 0x32 ≡ true → after.phase ≡ leaves (to_safety b.phase) b.phase
    pub current : is_in k setting_commands ≡ false → eqb k 0xAA ≡ false → after.memory.current ≡ b.memory.current
    pub store : is_in k saving_commands ≡ false → after.memory.store ≡ b.memory.store
    pub range : InRange b.memory → InRange after.memory
    pub faults : eqb k 0x42 ≡ true
        → after.reply ≡ reply_of (faults_reply (header_of b.profile) k new after.channels.on after.channels.latched after.channels.counts)

  -- ---- the commands that leave the mode, and make no reply of counts
  abbrev Plain : ℕ → Type 0
  Plain k = is_in k moving ≡ false

  -- with the memory as it was, or with another
  plainly : (k : ℕ) (after : Board) → Plain k → after.timer ≡ 0 → after.phase ≡ b.phase
      → (is_in k setting_commands ≡ false → after.memory.current ≡ b.memory.current) → (is_in k saving_commands ≡ false → after.memory.store ≡ b.memory.store) → (InRange b.memory → InRange after.memory) → Obeyed k after
  unfolding is_in
  plainly k after o timer phase current store range =
      record {
        timer = timer;
        phase = λ _ _. phase;
        nominal = λ e. both (other k 0x30 moving o refl) e;
        safety = λ e. both (other k 0x32 moving o refl) e;
        current = λ n _. current n;
        store = store;
        range = range;
        faults = λ e. both (other k 0x42 moving o refl) e;
      }

  -- those that only reply
  quiet_code : (k : ℕ) → is_in k acting ≡ false → Plain k
  unfolding is_in
  quiet_code k q = rw (other k 0x30 acting q refl, other k 0x32 acting q refl, other k 0x42 acting q refl)

  -- those on channels
  operating : {k : ℕ} {o : channel.Command} → Operates rail limits s b k o → Plain k
  unfolding is_in
  operating group_on = refl
  operating group_off = refl
  operating group_state = refl
  operating channel_on = refl
  operating channel_off = refl
  operating cancel = refl

  -- those on settings
  remembering : {k : ℕ} {m : Memory} (after : Board) → Remembers rail limits s b k m → after.timer ≡ 0 → after.phase ≡ b.phase → after.memory ≡ m → Obeyed k after
  unfolding is_in load_of
  remembering after (set id v) t p e = plainly 0x84 after refl t p (λ n. both n refl) (λ _. rw e (set_leaves_store b.memory id v)) (λ r. rw e (set_one b.memory r id v))
  remembering after (reset_one id) t p e = plainly 0x86 after refl t p (λ n. both n refl) (λ _. rw e (reset_leaves_store b.memory id b.profile.kind)) (λ r. rw e (ranges.reset_one b.memory r b.profile.kind id))
  remembering after defaults t p e = plainly 0x90 after refl t p (λ n. both n refl) (λ _. rw e (defaults_leave_store b.memory b.profile.kind)) (λ r. rw e (defaulted b.memory r b.profile.kind))
  remembering after load t p e = plainly 0x92 after refl t p (λ n. both n refl) (λ _. rw e (load_leaves_store b.profile.kind b.memory.store)) (λ r. rw e (ranges.load b.memory r b.profile.kind))
  remembering after (save given) t p e = plainly 0x94 after refl t p (λ _. rw e (save_leaves_current given b.memory)) (λ n. both n refl) (λ r. rw e (saved b.memory r given))

  -- ---- the commands on the mode: 0x30
  to_nominal_by : (after : Board) → after.timer ≡ 0 → after.memory ≡ b.memory → to_nominal b.phase rail limits ≡ Some after.phase → Obeyed 0x30 after
  unfolding is_in
  to_nominal_by after t m e =
      record {
        timer = t;
        phase = λ n _. both n refl;
        nominal = λ _. sym (ap (λ (x : Option ModeAge). leaves x b.phase) e);
        safety = λ e. both refl e;
        current = λ _ _. ap (λ (x : Memory). x.current) m;
        store = λ _. ap (λ (x : Memory). x.store) m;
        range = λ r. subst InRange (sym m) r;
        faults = λ e. both refl e;
      }

  -- 0x32
  to_safety_by : (after : Board) → after.timer ≡ 0 → after.memory ≡ b.memory → to_safety b.phase ≡ Some after.phase → Obeyed 0x32 after
  unfolding is_in
  to_safety_by after t m e =
      record {
        timer = t;
        phase = λ n _. both n refl;
        nominal = λ e. both refl e;
        safety = λ _. sym (ap (λ (x : Option ModeAge). leaves x b.phase) e);
        current = λ _ _. ap (λ (x : Memory). x.current) m;
        store = λ _. ap (λ (x : Memory). x.store) m;
        range = λ r. subst InRange (sym m) r;
        faults = λ e. both refl e;
      }

  -- ---- every command
  obeyed : {k : ℕ} {after : Board} → Done rail limits s b k after → Obeyed k after
  unfolding is_in command_reset_of fresh_of
  obeyed {k} (replies r w quiet) = plainly k _ (quiet_code k quiet) refl refl (λ _. refl) (λ _. refl) (λ r. r)
  obeyed shows_faults =
      record {
        timer = refl;
        phase = λ _ _. refl;
        nominal = λ e. both refl e;
        safety = λ e. both refl e;
        current = λ _ _. refl;
        store = λ _. refl;
        range = λ r. r;
        faults = λ _. refl;
      }
  obeyed {k} (operates r o) = plainly k _ (operating o) refl refl (λ _. refl) (λ _. refl) (λ r. r)
  obeyed (enters r (in_nominal e)) = to_nominal_by _ refl refl e
  obeyed (enters r (into_nominal e)) = to_nominal_by _ refl refl e
  obeyed (enters r (in_safety n e)) = to_safety_by _ refl refl e
  obeyed (enters r (into_safety n e)) = to_safety_by _ refl refl e
  obeyed (remembers r m) = remembering _ m refl refl refl
  obeyed restarts =
      record {
        timer = refl;
        phase = λ _ e. both e refl;
        nominal = λ e. both refl e;
        safety = λ e. both refl e;
        current = λ _ e. both e refl;
        store = λ _. load_leaves_store b.profile.kind b.memory.store;
        range = λ r. loaded b.profile.kind b.memory.store r.store;
        faults = λ e. both refl e;
      }

  -- ---- a transfer or none, by whether it was accepted
  pub data Takes (c : Commanded) : Type 0 where
    leaving : is_accepted (told_number c.outcome) ≡ false → Left rail limits s b c.board → Takes c
    obeying : told_number c.outcome ≡ some 0 → Obeyed (code_of s) c.board → Takes c

  -- a transfer
  taken : {c : Commanded} → Answers rail limits s b (Done rail limits s b (code_of s)) c → Takes c
  taken (refusing n t left) = leaving (rw t (not_accepted n)) left
  taken (accepting t done) = obeying t (obeyed done)

  -- the whole step
  pub takes : (sent : Bool) → Takes (commanded_of rail limits sent s b)
  unfolding commanded_of
  takes false = leaving refl (record { phase = refl; memory = refl; channels = refl })
  takes true = taken (does rail limits s b)
