use Rattle.std.proofs.Common.{◌≡◌, None, sym, ap, ◌∙◌, arith, rules}
use Rattle.journal.specs.Journals.{walked}
use Rattle.cursor.specs.Seen.{entry_shown}
use Rattle.journal.proofs.Walks.{opens, walk_ended, walk_newer, walk_other, walk_refused}
use Rattle.journal.proofs.entries.survey.Goals as goal

pub returns-in_err-entry-clause-value : goal.returns-in_err-entry-clause-value
returns-in_err-entry-clause-value c =
    let bs = c.args.bytes.now in
    let h = rw c.loop-entry.invariant.0 at c.in_err-entry.ensures.value in
    let e = ap (walked c.args.key 0 None) (opens bs c.if-bytes-gt65536.false) ∙ walk_refused bs c.args.key _ _ c.loop-entry.invariant.1 _ h in
    search rules

pub loop-entry-preserved-then-entry-key : goal.loop-entry-preserved-then-entry-key
loop-entry-preserved-then-entry-key c =
    let h = rw (c.in-Some.is, c.loop-entry.invariant.0) at c.in_ok-entry.ensures.value in
    let moved = rw c.in-Some.is at c.in_ok-entry.ensures.moved in
    (c.in_ok-entry.ensures.same ∙ c.loop-entry.invariant.0, rw moved (walk_newer c.args.bytes.now c.args.key _ _ c.loop-entry.invariant.1 (entry_shown c.in-Some.entry) h c.if-entry-key.true))

pub loop-entry-preserved : goal.loop-entry-preserved
loop-entry-preserved c =
    let h = rw (c.in-Some.is, c.loop-entry.invariant.0) at c.in_ok-entry.ensures.value in
    let moved = rw c.in-Some.is at c.in_ok-entry.ensures.moved in
    (c.in_ok-entry.ensures.same ∙ c.loop-entry.invariant.0, rw moved (walk_other c.args.bytes.now c.args.key _ _ c.loop-entry.invariant.1 (entry_shown c.in-Some.entry) h c.if-entry-key.false))

pub returns-clause-value : goal.returns-clause-value
returns-clause-value c =
    let bs = c.args.bytes.now in
    let h = rw (c.in_default.is, c.loop-entry.invariant.0) at c.in_ok-entry.ensures.value in
    let moved = rw c.in_default.is at c.in_ok-entry.ensures.moved in
    let same : c.entry.new.self.at ≡ c.loop-entry.cursor.at = omega arith in
    let e = ap (walked c.args.key 0 None) (opens bs c.if-bytes-gt65536.false) ∙ walk_ended bs c.args.key _ _ c.loop-entry.invariant.1 h in
    rw same (sym e)
