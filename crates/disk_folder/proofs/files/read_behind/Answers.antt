use Rattle.std.proofs.Common.{ℕ, ◌≡◌, ◌≤◌, ◌+◌, ◌-◌, ◌∙◌, List, length, take, drop, sym, ap, arith}
use Rattle.std.proofs.lemmas.List.{drop-take, length-take-le, length-take, length-drop}
use borrow.Rule.Slice.PartMut.{post_of}
use Rattle.backing.specs.declared.call.Answer.TheVariants.{Bytes}
use Rattle.backing.specs.Files.{read}
use Rattle.disk_folder.proofs.PartLemmas.{behind_room}
use Rattle.disk_folder.proofs.files.read_behind.Goals as goal

pub returns-in_ok-bytes-in-Ok-clause-ok : goal.returns-in_ok-bytes-in-Ok-clause-ok
returns-in_ok-bytes-in-Ok-clause-ok g c = λ p bytes there file.
    let d = c.deref_mut.result.now in
    let new = c.read_all.new.buffer in
    let count = c.in-Ok.count in
    let value : length d ≡ length c.args.buffer.items = ap (λ (xs : List ℕ). length xs) c.deref_mut.ensures.value in
    let room : 16 ≤ length d = omega (arith, value, c.requires.room) in
    let long : length new ≡ length c.args.buffer.items - 16 = omega (arith, value, c.read_all.auto.buffer, length-take {A = ℕ}, length-drop {A = ℕ}) in
    let within = c.in-Ok.ensures.within in
    let fits : 16 + count ≤ c.args.buffer.len = omega (arith, long, within, c.requires.room) in
    let cut = behind_room (take 16 d) new (post_of 16 (length d - 16) d) _ count c.args.buffer.len 16 (length-take-le 16 d room) within fits in
    let size : length new ≡ length (drop 16 c.args.buffer.items) = omega (arith, long, length-drop {A = ℕ}) in
    ap Bytes (c.in_ok-bytes-in-Ok.ensures ∙ (sym (drop-take 16 count _) ∙ (cut ∙ (c.in-Ok.ensures.bytes p bytes there file ∙ ap (λ (n : ℕ). read bytes c.args.offset n) size))))
