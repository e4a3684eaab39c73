use Rattle.std.proofs.Common.{◌≡◌, ℕ, true, false, ◌+◌, ◌-◌, ◌*◌, ◌<◌, ◌&&◌, leb, [], ◌++◌, length, take, drop, Ok, sym, refl, ap, ◌∙◌, arith}
use lib.Seq.{paste}
use Rattle.std.proofs.lemmas.Bool.{le-leb, lt-leb, and_from, and_left, and_right, cond-true, cond-false}
use Rattle.std.proofs.lemmas.List.{length-take, length-take-le, length-drop, get_or-take}
use Rattle.std.proofs.lemmas.List.Edits.{paste_none}
use Rattle.refusals.specs.declared.Refusal.TheVariants.{ShortMemory}
use Rattle.dvvset.specs.Clock.{accepted, refused, answer, after}
use Rattle.dvvset.specs.Listing.{siblings, siblings_from}
use Rattle.clock.specs.Memory.{state, roomy, no_row}
use Rattle.clock.proofs.Dots.{siblings-all, count_fits, count_more, counted, list_more, listed}
use Rattle.clock.proofs.listing.list.Goals as goal
use Rattle.clock.proofs.listing.list.Goals.{then-not-has_room-via-then-not-has_room, then-not-has_room-via-else-not-has_room+then-sibling_count-out}

pub sibling_count-requires : goal.sibling_count-requires
sibling_count-requires g c = omega (arith, length-take-le 24 c.args.rows.now (c.if-not-has_room.ensures.enough.0 refl).0)

pub slice_bounds-sibling_count-end : goal.slice_bounds-sibling_count-end
slice_bounds-sibling_count-end g c = sym (length-take-le 24 c.args.rows.now (c.if-not-has_room.ensures.enough.0 refl).0)

pub slice_bounds-row-items-end : goal.slice_bounds-row-items-end
slice_bounds-row-items-end g c = sym (length-take-le 24 c.args.rows.now (c.if-not-has_room.ensures.enough.0 refl).0)

pub loop-c-init : goal.loop-c-init
loop-c-init g c = (length-take-le 24 c.args.rows.now (c.if-not-has_room.ensures.enough.0 refl).0, refl, paste_none c.args.out.now 0 [])

pub returns-then-not-has_room : goal.returns-then-not-has_room
returns-then-not-has_room g c =
    let rows = c.args.rows.now in
    let cells = c.args.cells.now in
    let out = c.args.out.now in
    let all = siblings (state rows cells) in
    let short : (roomy rows cells && leb (length all) (length out)) ≡ false = elim c.then-not-has_room.branch [
      | then-not-has_room-via-then-not-has_room w ↦ and_left _ _ (sym w.if-not-has_room.ensures.value)
      | then-not-has_room-via-else-not-has_room+then-sibling_count-out w ↦
          and_right _ _ (lt-leb (length all) (length out) (let room = w.if-not-has_room.ensures.enough.0 refl in omega (arith, counted rows cells room.0 room.1)))
    ] in
    let o = cond-false (roomy rows cells && leb (length all) (length out)) (accepted (length all) (all ++ drop (length all) out)) (refused ShortMemory) short in
    record { answer = sym (ap answer o); out = sym (ap (after out) o) }

pub list_column-n-requires : goal.list_column-n-requires
list_column-n-requires g c =
    let rows = c.args.rows.now in
    let cells = c.args.cells.now in
    let room = c.if-not-has_room.ensures.enough.0 refl in
    let f = count_fits rows cells c.loop-c.c c.loop-c.n (omega arith) room.1 c.loop-c.invariant.1 in
    record { cells = simp (length-take, length-drop) (omega arith); room = rw (get_or-take 24 rows c.loop-c.c no_row (omega arith)) (omega (arith, counted rows cells room.0 room.1)) }

pub loop-c-preserved : goal.loop-c-preserved
loop-c-preserved g c =
    let rows = c.args.rows.now in
    let cells = c.args.cells.now in
    let i : ℕ = c.loop-c.c in
    let n : ℕ = c.loop-c.n in
    let k : ℕ = 4 * i + 4 - 4 * i in
    let lt : i < 24 = omega arith in
    let room = (c.if-not-has_room.ensures.enough.0 refl).1 in
    let here = get_or-take 24 rows i no_row lt in
    let count = rw here at c.list_column-n.ensures.count in
    let new = rw here at c.list_column-n.ensures.out in (
      c.loop-c.invariant.0,
      ap (λ m. n + m) count ∙ count_more rows cells i n lt room c.loop-c.invariant.1,
      list_more rows cells i n lt room c.loop-c.invariant.1 k c.args.out.now c.loop-c.out c.list_column-n.new.out (omega arith) c.loop-c.invariant.2 new
          ∙ ap (λ m. paste c.args.out.now 0 (siblings_from 0 (take (i + 1) (state rows cells))) (n + m)) (sym count),
    )

pub returns : goal.returns
returns g c =
    let rows = c.args.rows.now in
    let cells = c.args.cells.now in
    let out = c.args.out.now in
    let all = siblings (state rows cells) in
    let room = c.if-not-has_room.ensures.enough.0 refl in
    let whole = siblings-all rows cells c.loop-c.c (omega arith) in
    let n : c.loop-c.n ≡ length all = c.loop-c.invariant.1 ∙ ap length whole in
    let e : (roomy rows cells && leb (length all) (length out)) ≡ true = and_from _ _ (sym c.if-not-has_room.ensures.value) (le-leb (length all) (length out) (omega (arith, counted rows cells room.0 room.1))) in
    let o = cond-true (roomy rows cells && leb (length all) (length out)) (accepted (length all) (all ++ drop (length all) out)) (refused ShortMemory) e in
    record {
      answer = ap Ok n ∙ sym (ap answer o);
      out = listed all out c.loop-c.out c.loop-c.n n (c.loop-c.invariant.2 ∙ ap (λ ws. paste out 0 ws c.loop-c.n) whole) ∙ sym (ap (after out) o);
    }
