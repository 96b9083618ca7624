-- The memory and the reply are put in or left, then the small parts are; what that comes to is shown in proofs/Whole.
use mathlib.Core.Path.{◌≡◌, sym, ◌∙◌}
use mir.Syntax.{w16}
use mir.ValLaws.{to_z-of_z}
use Rattle.command.specs.Decode.{code_of}
use Rattle.answers.specs.Answers.{received_in}
use Rattle.asking.specs.Sent.{is_sent, bytes_sent}
use Rattle.commands.specs.Parts.{layout_asked}
use Rattle.commands.proofs.Told.{with_number}
use Rattle.commands.proofs.Whole.{Obeying, altered, replied, goes_on, begins_again}
use Rattle.commands.proofs.commanded.Goals as goal
use Rattle.commands.proofs.commanded.Goals.{Joined-replied, then-is_altering, else-is_altering, then-replied, else-replied}

-- the board where the branches on the memory meet, and where those on the reply do
remembered : (c : Joined-replied) → c.if-is_altering.b ≡ altered c.memory_change-change.result c.args.b
remembered c =
    elim c.if-is_altering.branch [
      | then-is_altering w ↦ w.b-is ∙ rw (sym c.is_altering.ensures ∙ w.if-is_altering.true, w.memory_after-b.ensures)
      | else-is_altering w ↦ w.b-is ∙ rw (sym c.is_altering.ensures ∙ w.if-is_altering.false)
    ]

answered : (c : Joined-replied) → c.if-replied.b ≡ replied (code_of (bytes_sent c.args.transfer)) c.obeyed-told.result (layout_asked c.asked_of-asked.result) c.if-is_altering.b
unfolding received_in
answered c =
    elim c.if-replied.branch [
      | then-replied w ↦ w.b-is ∙ rw (w.if-replied.true, w.reply_to-b.ensures, w.layout.ensures, w.start_of.ensures, w.bytes_sent.ensures)
      | else-replied w ↦ w.b-is ∙ rw w.if-replied.false
    ]

obeying : (c : Joined-replied) → Obeying c.args.rail c.args.limits (is_sent c.args.transfer) (bytes_sent c.args.transfer) c.args.b c.asked_of-asked.result c.obeyed-told.result c.memory_change-change.result c.if-is_altering.b c.if-replied.b
obeying c =
    record {
      asks = rw (c.asked_of-asked.ensures.value, c.mode.ensures);
      tells = rw (c.obeyed-told.ensures, to_z-of_z w16 c.args.rail c.ranges.rail);
      keeps = c.memory_change-change.ensures;
      alters_it = remembered c;
      answers_it = answered c;
    }

pub returns-then-is_restart : goal.returns-then-is_restart
returns-then-is_restart c =
    let o = obeying (goal.at.returns-then-is_restart c).Joined-replied in
    let both = with_number _ _ _ _ _ (begins_again _ _ _ _ _ _ _ _ _ _ o (sym c.is_restart.ensures ∙ c.if-is_restart.true) c.command_reset-b.ensures) in
    record { value = both.0; number = both.1 }

pub returns-else-is_restart : goal.returns-else-is_restart
returns-else-is_restart c =
    let o = obeying (goal.at.returns-else-is_restart c).Joined-replied in
    let both = with_number _ _ _ _ _ (goes_on _ _ _ _ _ _ _ _ _ _ o (sym c.is_restart.ensures ∙ c.if-is_restart.false)) in
    record { value = both.0; number = both.1 }
