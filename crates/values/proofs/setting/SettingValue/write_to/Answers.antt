use Rattle.std.proofs.Common.{◌≡◌, ◌++◌, length, drop, rules}
use borrow.Rule.Slice.PartMut.{put_mid, post_of}
use Rattle.std.proofs.lemmas.List.{take_at}
use Rattle.values.specs.BigEndian.{Bytes}
use Rattle.values.specs.Layouts.{setting_bytes}
use Rattle.values.specs.BigEndianLemmas.{bytes_drop, bytes_take, bytes_typed}
use Rattle.values.proofs.setting.SettingValue.write_to.Goals as goal

-- the label's bytes are seen to be bytes in what was written
pub returns : goal.returns
returns c =
    let out = c.args.out.now in
    let self = c.args.self.now in
    let all = setting_bytes self ++ drop 16 out in
    let memory : put_mid 4 12 (c.copy_from_slice.new.self ++ post_of 0 4 out) c.copy_from_slice-2.new.self ≡ all = search rules in
    let bytes : Bytes all = bytes_typed all (λ i. rw memory at (c.type_inv.out i)) in
    let twelve : length self.label ≡ 12 = search rules in
    let label : Bytes self.label = rw (take_at self.label (drop 16 out) 12 twelve) at (bytes_take 12 (drop 4 all) (bytes_drop 4 all bytes)) in
    record { memory = memory; valid = (search rules, twelve, label) }
