-- Why settings change only so: steps 1 to 3 leave the memory, each command but the four the settings in force, each but
-- a save the store, and a reset takes them from the store. Assumes nothing.
use mathlib.Core.Path.{◌≡◌, refl, ap, ◌∙◌}
use mathlib.Core.Bool.{false, ◌&&◌}
use lib.Dec.{eqb}
use Rattle.laws.proofs.Cases.{cases, neither}
use Rattle.kinds.specs.Kinds.{is_in}
use Rattle.command.specs.Decode.{code_of}
use Rattle.memory.specs.Limits.{limits_of}
use Rattle.memory.specs.declared.Memory.{Memory}
use Rattle.memory.proofs.Laws.{load_leaves_store}
use Rattle.state.specs.Parts.{word_count}
use Rattle.state.specs.Start.{fresh_of, watchdog_reset_of}
use Rattle.state.specs.declared.parts.Board.{Board}
use Rattle.answers.specs.Answers.{told_number}
use Rattle.answers.specs.declared.Commanded.{Commanded}
use Rattle.board.specs.Tick.{risen_of, changed_of, tripped_of}
use Rattle.unit.specs.declared.Machine.{Machine}
use Rattle.unit.specs.Runs.{Sample, told, happens, after_step3, after_step4}
use Rattle.groups.specs.Resets.{is_accepted, tells_watchdog_reset, tells_command_reset, tells_reset}
use Rattle.groups.proofs.Resets.{reset_is_told}
use Rattle.changes.specs.Accepted.{accepts_one_of}
use Rattle.changes.specs.SettingsChange.{setting_commands, saving_commands, SettingsChange}
use Rattle.changes.proofs.Step.{Takes, leaving, obeying}
use Rattle.changes.proofs.Ticks.{of_accepted, step, leaves_all, tells, leaves_step_4}

-- a reset takes its settings from the store, and leaves that
reset_store : (b : Board) → (watchdog_reset_of b).memory.store ≡ b.memory.store
unfolding watchdog_reset_of fresh_of
reset_store b = load_leaves_store b.profile.kind b.memory.store

module _ (m : Machine) (i : Sample) where
  -- steps 1 to 3 leave the memory
  settled : (after_step3 m i).memory ≡ m.board.memory
  unfolding tripped_of changed_of risen_of
  settled = refl

  -- ---- step 4
  abbrev Stepped : Commanded → Type 0
  Stepped x = Takes i.rail (limits_of m.board.memory) i.transfer (after_step3 m i) x

  -- the settings in force
  step_current : {x : Commanded} → Stepped x → (is_accepted (told_number x.outcome) && is_in (code_of i.transfer) setting_commands) ≡ false
      → (is_accepted (told_number x.outcome) && eqb (code_of i.transfer) 0xAA) ≡ false → x.board.memory.current ≡ m.board.memory.current
  step_current (leaving a left) n r = ap (λ (x : Memory). x.current) (left.memory ∙ settled)
  step_current (obeying t obeyed) n r = obeyed.current (of_accepted _ _ false t n) (of_accepted _ _ false t r) ∙ ap (λ (x : Memory). x.current) settled

  -- the store
  step_store : {x : Commanded} → Stepped x → (is_accepted (told_number x.outcome) && is_in (code_of i.transfer) saving_commands) ≡ false → x.board.memory.store ≡ m.board.memory.store
  step_store (leaving a left) n = ap (λ (x : Memory). x.store) (left.memory ∙ settled)
  step_store (obeying t obeyed) n = obeyed.store (of_accepted _ _ false t n) ∙ ap (λ (x : Memory). x.store) settled

  -- ---- the tick
  in_force : tells_reset m i ≡ false → accepts_one_of setting_commands m i ≡ false → (told m i).machine.board.memory.current ≡ m.board.memory.current
  unfolding tells_reset tells_command_reset
  in_force r n =
      let w = neither (tells_watchdog_reset m i) _ r in
      cases (happens (word_count m.board) i)
      (λ a. ap (λ (b : Board). b.memory.current) (leaves_step_4 m i a w.0) ∙ step_current (step m i) (rw (tells m i a) at n) (rw (tells m i a) at w.1))
      (λ a. ap (λ (b : Board). b.memory.current) (leaves_all m i a))

  -- a reset by the watchdog comes after step 4, and leaves the store
  stored : accepts_one_of saving_commands m i ≡ false → (told m i).machine.board.memory.store ≡ m.board.memory.store
  stored n =
      cases (happens (word_count m.board) i)
      (λ a.
      let kept = step_store (step m i) (rw (tells m i a) at n) in
      cases (tells_watchdog_reset m i)
      (λ w. ap (λ (b : Board). b.memory.store) ((reset_is_told m i).by_watchdog w) ∙ reset_store (after_step4 m i) ∙ kept)
      (λ w. ap (λ (b : Board). b.memory.store) (leaves_step_4 m i a w) ∙ kept))
      (λ a. ap (λ (b : Board). b.memory.store) (leaves_all m i a))

  -- the claim
  pub settings_change : SettingsChange m i
  settings_change = record { in_force = in_force; stored = stored }
