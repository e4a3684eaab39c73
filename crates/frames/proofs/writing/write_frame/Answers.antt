use Rattle.std.proofs.Common.{◌≡◌, ℕ, ◌+◌, ◌-◌, ◌*◌, ◌<◌, ◌≤◌, ◌++◌, length, take, get_or, drop, sum_by, sym, refl, ap, ◌∙◌, subst, ⊎_elim, arith, below_more}
use Rattle.std.proofs.lemmas.List.{get_or_past, get_or-take, length-take-le, take-take}
use Rattle.std.proofs.lemmas.List.Sums.{sum_by_more, sum_by_more_le}
use Rattle.std.proofs.lemmas.Bool.{cases_lt}
use Rattle.std.specs.List.{AllByRecursion}
use Rattle.dvvset.specs.Clock.{after, answer, column_at, no_writes}
use Rattle.clock.specs.Memory.{no_row, state}
use Rattle.clock.proofs.Whole.{length-state, read-column}
use Rattle.formats.specs.Frames.{column_field, head_field, rising_fields, unwritten}
use Rattle.formats.proofs.Laying.{field-behind}
use Rattle.frames.specs.Writing.{field_length, field_of}
use Rattle.frames.proofs.Writes.{all-fields, fields, frame_written, length-all, next-fields, too_short}
use Rattle.frames.proofs.writing.write_frame.Goals as goal

pub slice_bounds-frame_size-end : goal.slice_bounds-frame_size-end
slice_bounds-frame_size-end g c = sym (length-take-le 24 c.args.rows.now (c.if-not-has_room.ensures.enough.0 refl).0)

pub frame_size-size-requires : goal.frame_size-size-requires
frame_size-size-requires g c = omega (arith, length-take-le 24 c.args.rows.now (c.if-not-has_room.ensures.enough.0 refl).0)

pub slice_bounds-row-items-end : goal.slice_bounds-row-items-end
slice_bounds-row-items-end g c = sym (length-take-le 24 c.args.rows.now (c.if-not-has_room.ensures.enough.0 refl).0)

pub returns-then-out-size : goal.returns-then-out-size
returns-then-out-size g c =
    let v = g.V.Value in
    let rows = c.args.rows.now in
    let cells = c.args.cells.now in
    let room = c.if-not-has_room.ensures.enough.0 refl in
    let o = too_short v.width v.bytes_of c.args.key rows cells c.args.out.now (omega arith) (sym c.if-not-has_room.ensures.value) (omega (arith, length-all v.width rows cells room.0 room.1, c.frame_size-size.ensures)) in
    record { answer = sym (ap answer o); out = sym (ap (after c.args.out.now) o); fit = tt }

pub loop-c-init : goal.loop-c-init
loop-c-init g c = (length-take-le 24 c.args.rows.now (c.if-not-has_room.ensures.enough.0 refl).0, refl, refl, ap (λ h. h ++ drop 4 c.args.out.now) c.copy_from_slice.ensures.after, λ i h. absurd (omega arith))

pub write_field-at-requires-clause-room : goal.write_field-at-requires-clause-room
write_field-at-requires-clause-room g c =
    let rows = c.args.rows.now in
    let i = c.loop-c.c in
    let length_of = field_length g.V.Value.width in
    let so_far = ap (sum_by length_of) (take-take i 24 rows (omega arith)) in
    omega (arith, sum_by_more_le length_of (take 24 rows) i no_row c.loop-c-test.true, so_far, c.frame_size-size.ensures)

pub loop-c-preserved : goal.loop-c-preserved
loop-c-preserved g c =
    let v = g.V.Value in
    let i : ℕ = c.loop-c.c in
    let k : ℕ = 4 * i + 4 - 4 * i in
    let lt : i < 24 = omega arith in
    let four : k ≡ 4 = omega arith in
    let rows = c.args.rows.now in
    let cells = c.args.cells.now in
    let out = c.args.out.now in
    let J = head_field 1 c.args.key ++ fields v.bytes_of rows cells i in
    let row = get_or-take 24 rows i no_row lt in
    let length_of = field_length v.width in
    let row_long = ap length_of row in
    let so_far = ap (sum_by length_of) (take-take i 24 rows (omega arith)) in
    let at = c.write_field-at.ensures.at in
    let new = rw row at c.write_field-at.ensures.out in
    let valid = rw row at c.write_field-at.ensures.valid in
    let fb = field-behind J c.loop-c.out out c.write_field-at.new.out (field_of v.bytes_of i (get_or rows i no_row) (take k (drop (4 * i) cells))) c.loop-c.at c.write_field-at.result c.loop-c.invariant.2 c.loop-c.invariant.3 new (omega arith) (omega (arith, at, so_far, sum_by_more_le length_of (take 24 rows) i no_row c.loop-c-test.true, row_long, c.frame_size-size.ensures)) c.write_field-at.auto.out in
    let e = ap (λ f. head_field 1 c.args.key ++ f) (next-fields v.bytes_of rows cells i k lt four) in
    let here : AllByRecursion v.valid (column_at (state rows cells) i).values = subst (λ a. AllByRecursion v.valid a.values) (read-column rows cells i k no_writes lt four) valid in
    (c.loop-c.invariant.0, omega (arith, at, row_long, sum_by_more length_of rows i no_row (omega arith)), ap length e ∙ fb.0, fb.1 ∙ ap (λ x. x ++ drop c.write_field-at.result out) (sym e), below_more _ _ c.loop-c.invariant.4 here)

pub returns : goal.returns
returns g c =
    let v = g.V.Value in
    let rows = c.args.rows.now in
    let cells = c.args.cells.now in
    let out = c.args.out.now in
    let room = c.if-not-has_room.ensures.enough.0 refl in
    let all : c.loop-c.c ≡ 24 = omega arith in
    let size = c.frame_size-size.ensures ∙ length-all v.width rows cells room.0 room.1 in
    let at : c.loop-c.at ≡ c.frame_size-size.result = c.loop-c.invariant.1 ∙ ap (λ n. 4 + sum_by (field_length v.width) (take n rows)) all ∙ sym c.frame_size-size.ensures in
    let new = c.loop-c.invariant.3 ∙ ap (λ f. (head_field 1 c.args.key ++ f) ++ drop c.loop-c.at out) (all-fields v.bytes_of rows cells c.loop-c.c (omega arith)) ∙ ap (λ n. (head_field 1 c.args.key ++ rising_fields unwritten (column_field v.bytes_of) 0 (state rows cells)) ++ drop n out) at in
    let w = frame_written v.width v.bytes_of c.args.key rows cells out (omega arith) (sym c.if-not-has_room.ensures.value) c.frame_size-size.result c.loop-c.out size c.if-out-size.false new in
    record {
      answer = w.0;
      out = w.1;
      fit = λ i. ⊎_elim (λ (h : i < 24). c.loop-c.invariant.4 i (omega arith)) (λ (h : 24 ≤ i). subst (λ a. AllByRecursion v.valid a.values) (sym (get_or_past (state rows cells) i no_writes (omega (arith, length-state rows cells)))) tt) (cases_lt i 24);
    }
