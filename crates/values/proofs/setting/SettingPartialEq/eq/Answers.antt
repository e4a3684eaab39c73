use Rattle.std.proofs.Common.{◌≡◌, ℕ, List, ℤ, sym, ap, ◌∙◌, rules}
use Rattle.std.proofs.lemmas.Slice.Eq.{slice_eq-Decides}
use Rattle.values.specs.declared.setting.Setting.{Setting}
use Rattle.values.proofs.setting.SettingPartialEq.eq.Goals as goal
use Rattle.std.proofs.lemmas.Bool.Decides.{Decides-eqb}

-- where the measures are the same, the labels decide
pub returns-then-other-self-clause-same : goal.returns-then-other-self-clause-same
returns-then-other-self-clause-same c =
    let a = c.args.self.now in
    let b = c.args.other.now in
    let with_measure : ℤ → Setting = λ z. record { measure = z; label = a.label } in
    let with_label : List ℕ → Setting = λ xs. record { measure = b.measure; label = xs } in
    let measure : a.measure ≡ b.measure = search rules in
    let labels = slice_eq-Decides Decides-eqb b.label a.label c.eq.result c.eq.ensures in
    (λ same. ap with_measure measure ∙ ap with_label (sym (labels.0 same)), λ same. labels.1 (ap (λ (s : Setting). s.label) (sym same)))
