-- The default that the id reads is set; an id that reads none changes nothing.
use mathlib.Core.Path.{◌≡◌, sym, ap, ◌∙◌}
use Prim.Native.Nat.{ℕ}
use native.Mathlib.Omega.{arith}
use Rattle.settings.specs.Values.{get_of, defaults_of}
use Rattle.settings.specs.declared.Settings.{Settings}
use Rattle.settings.proofs.Resets.{reset_sets, reset_unread}
use Rattle.settings.proofs.reset_one.Goals as goal

pub returns-in-Value : goal.returns-in-Value
returns-in-Value c =
    let s = c.args.s in
    let id = c.args.id in
    let kind = c.args.kind in
    let g : get_of (defaults_of kind) id ≡ c.get-default.result = sym (c.get-default.ensures.value ∙ ap (λ (d : Settings). get_of d id) c.defaults.ensures) in
    c.set.ensures ∙ reset_sets kind s id _ (g ∙ c.in-Value.is)

pub returns-in-ReadOnly : goal.returns-in-ReadOnly
returns-in-ReadOnly c =
    let s = c.args.s in
    let id = c.args.id in
    let kind = c.args.kind in
    let g : get_of (defaults_of kind) id ≡ c.get-default.result = sym (c.get-default.ensures.value ∙ ap (λ (d : Settings). get_of d id) c.defaults.ensures) in
    let n = c.in-ReadOnly.is in
    sym (reset_unread kind s id (λ v h. let z : ◌≡◌ {A = ℕ} 0 1 = cc in omega arith))

pub returns-in-Unknown : goal.returns-in-Unknown
returns-in-Unknown c =
    let s = c.args.s in
    let id = c.args.id in
    let kind = c.args.kind in
    let g : get_of (defaults_of kind) id ≡ c.get-default.result = sym (c.get-default.ensures.value ∙ ap (λ (d : Settings). get_of d id) c.defaults.ensures) in
    let n = c.in-Unknown.is in
    sym (reset_unread kind s id (λ v h. let z : ◌≡◌ {A = ℕ} 0 1 = cc in omega arith))
