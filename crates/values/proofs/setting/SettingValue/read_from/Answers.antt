use Rattle.std.proofs.Common.{◌≡◌, take, drop, w32, to_z, of_z, rules}
use Rattle.std.proofs.lemmas.List.{drop-take, length-take-le}
use Rattle.values.specs.BigEndian.{Bytes}
use Rattle.values.specs.Layouts.{setting_of}
use Rattle.values.specs.BigEndianLemmas.{bytes_take, bytes_typed}
use Rattle.values.specs.LayoutsLemmas.{setting_fits}
use Rattle.values.proofs.setting.SettingValue.read_from.Goals as goal

pub returns : goal.returns
returns c =
    let src = c.args.src.now in
    let all : Bytes src = bytes_typed src c.type_inv.src in
    let label : c.copy_from_slice.new.self ≡ drop 4 (take 16 src) = search (rules, drop-take 4 12 src) in
    let measure : to_z w32 (of_z w32 c.from_be_bytes.result) ≡ (setting_of (take 16 src)).measure = search rules in
    let fits = setting_fits (take 16 src) (length-take-le 16 src c.requires) (bytes_take 16 src all) in
    record { value = cc; valid = (rw measure fits.0, rw label fits.1, rw label fits.2) }
