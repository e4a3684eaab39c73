use Rattle.std.proofs.Common.{arith, rules}
use Rattle.std.proofs.lemmas.Grind.{common_steps}
use Rattle.std.proofs.lemmas.List.{length-drop}
use Rattle.values.specs.BigEndianLemmas.{from_bytes_at}
use Rattle.cursor.proofs.fields.ColumnField.read.Goals as goal

-- the body's numbers, and what is left of it
pub returns-then-values-width : goal.returns-then-values-width
returns-then-values-width g c =
    let body = c.in_ok-body.body.now in
    let top = from_bytes_at 4 2 body (omega arith) in
    let left = length-drop 6 body in
    (rw (c.in_ok-body.ensures.value.1, ← c.in_ok-body.ensures.body) (grind (arith, common_steps)), tt)

pub returns : goal.returns
returns g c =
    let body = c.in_ok-body.body.now in
    let top = from_bytes_at 4 2 body (omega arith) in
    let left = length-drop 6 body in
    (rw (c.in_ok-body.ensures.value.1, ← c.in_ok-body.ensures.body) (grind (arith, common_steps)), search rules)
