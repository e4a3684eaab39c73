use Rattle.std.proofs.Common.{◌≡◌, ◌∙◌, ap, arith}
use Rattle.std.proofs.lemmas.List.{take_all}
use Rattle.frames.proofs.ValuesRead.{starts, at_the_end, next, next_at}
use Rattle.frames.proofs.merging.read_values.Goals as goal

pub loop-i-init : goal.loop-i-init
loop-i-init g c =
    let s = starts g.V.Value.width g.V.Value.value_of c.args.cells.now c.args.field.now.count c.args.field.now.values.now c.requires.values in
    let from = c.into_iter-i-iterator.ensures.into_iter_gives in
    let source = ap (λ e. e.iter) from ∙ c.enumerate-i-items.ensures.source in
    let rest = ap (λ s. s.rest.now) source ∙ c.chunks_exact.ensures.rest in
    let none = ap (λ e. e.count) from ∙ c.enumerate-i-items.ensures.count in
    (ap (λ s. s.size) source ∙ c.chunks_exact.ensures.size ∙ c.width.ensures, rw (rest, none) s)

pub bounds-cells-i : goal.bounds-cells-i
bounds-cells-i g c =
    let w = g.V.Value.width in
    let s = c.in-Some.ensures.steps in
    let n = next w g.V.Value.value_of c.args.cells.now c.args.field.now.count c.args.field.now.values.now _ _ _ c.loop-i.invariant.1 c.requires.cells g.met.V.Value.small.0 c.in-Some.bytes.now c.next.new.self.iter.rest.now s.0.1.0 (s.0.1.1 ∙ c.loop-i.invariant.0) in
    omega (arith, n.0)

pub loop-i-preserved : goal.loop-i-preserved
loop-i-preserved g c =
    let w = g.V.Value.width in
    let s = c.in-Some.ensures.steps in
    let fill : _ ≡ w = s.0.1.1 ∙ c.loop-i.invariant.0 in
    let at = s.1 in
    let n = next_at w g.V.Value.value_of c.args.cells.now c.args.field.now.count c.args.field.now.values.now _ _ _ c.loop-i.invariant.1 c.requires.cells g.met.V.Value.small.0 c.in-Some.bytes.now c.next.new.self.iter.rest.now s.0.1.0 fill in
    let x = c.read_from.ensures.value ∙ ap g.V.Value.value_of (take_all w c.in-Some.bytes.now (omega arith)) in
    (s.0.0 ∙ c.loop-i.invariant.0, rw (s.2, x) (n _ (λ lt. omega arith)))

pub returns : goal.returns
returns g c =
    let s = c.in-None.ensures.steps in
    at_the_end g.V.Value.width g.V.Value.value_of c.args.cells.now c.args.field.now.count c.args.field.now.values.now _ _ _ c.loop-i.invariant.1 c.requires.cells g.met.V.Value.small.0 (let short = s.0.1.0 in let size = c.loop-i.invariant.0 in omega arith)
