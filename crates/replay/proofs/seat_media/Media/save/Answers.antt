use Rattle.std.proofs.Common.{◌≡◌, length, vec_items, sym, refl, ◌∙◌, arith, rules}
use Rattle.std.proofs.lemmas.List.{get_or_default}
use Rattle.replay.proofs.seat_media.Media.save.Goals as goal

pub returns : goal.returns
returns c =
    let ms = vec_items c.args.self.now.slots in
    let before = c.index_mut.result.now in
    let each : length ms ≡ 6 = search rules in
    record {
      no_seat = λ h. absurd (omega arith);
      saved = λ h m e.
          let same : m ≡ before = e ∙ get_or_default ms c.args.seat m before (omega (arith, each)) ∙ sym c.index_mut.ensures.value in
          (c.save.new.self, refl, rw same c.save.ensures);
    }
