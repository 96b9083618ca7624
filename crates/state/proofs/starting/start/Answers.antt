-- By whether the profile keeps the rules; the number is that of the start, since what is handed back is the start.
use mathlib.Core.Path.{sym, ap, ◌∙◌}
use Rattle.state.specs.Start.{start_of, start_number}
use Rattle.state.specs.declared.starting.Started.{Started}
use Rattle.state.proofs.Laws.{number_8}
use Rattle.state.proofs.starting.start.Goals as goal

pub returns-then-keeps_the_rules-clause-value : goal.returns-then-keeps_the_rules-clause-value
unfolding start_of
returns-then-keeps_the_rules-clause-value c = rw (sym c.keeps_the_rules.ensures ∙ c.if-keeps_the_rules.true, c.fresh.ensures, c.never_reset.ensures)

pub returns-clause-value : goal.returns-clause-value
unfolding start_of
returns-clause-value c = rw (sym c.keeps_the_rules.ensures ∙ c.if-keeps_the_rules.false)

pub returns-then-keeps_the_rules-clause-number : goal.returns-then-keeps_the_rules-clause-number
returns-then-keeps_the_rules-clause-number c =
    ap (λ (s : Started). start_number s.answer) (returns-then-keeps_the_rules-clause-value c) ∙ number_8 c.args.there c.args.profile c.args.store

pub returns-clause-number : goal.returns-clause-number
returns-clause-number c = ap (λ (s : Started). start_number s.answer) (returns-clause-value c) ∙ number_8 c.args.there c.args.profile c.args.store
