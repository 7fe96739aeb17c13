use Rattle.std.proofs.Common.{ℕ, ◌≡◌, ◌≤◌, ◌+◌, ◌-◌, length, take, drop, List, subst, arith}
use borrow.Rule.Slice.PartMut.{put_mid}
use Rattle.disk_folder.proofs.PartLemmas.{ReadSoFar, read_more, read_short, room_more, same_bytes}
use Rattle.disk_folder.proofs.parts.read_all.Goals as goal

pub returns-then-more-eq0-clause-bytes : goal.returns-then-more-eq0-clause-bytes
returns-then-more-eq0-clause-bytes g c = λ p bytes stands file.
    let part = c.in_ok-more.ensures.bytes p stands in
    let same = same_bytes (g.D.Disk.tree c.args.disk.now p) part.bytes bytes part.stands file in
    let count = c.loop-count.count in
    let more = c.in_ok-more.more in
    let k = length c.loop-count.buffer - count in
    let so_far = read_more bytes c.args.offset count more k c.loop-count.buffer c.read_part.new.buffer (c.loop-count.invariant.bytes p bytes stands file) c.loop-count.invariant.within c.in_ok-more.ensures.within
    (subst (λ (b : List ℕ). take more c.read_part.new.buffer ≡ take more (drop (c.args.offset + count) b)) same part.read)
    (subst (λ (b : List ℕ). more ≤ length (drop (c.args.offset + count) b)) same part.held) in
    let none : more ≡ 0 = c.if-more-eq0.true in
    let total : count + more ≡ count = omega (arith, none) in
    let room = room_more count more k c.loop-count.buffer c.read_part.new.buffer c.loop-count.invariant.within c.in_ok-more.ensures.within in
    let buffer = put_mid count k c.loop-count.buffer c.read_part.new.buffer in
    read_short bytes buffer c.args.offset count (length buffer) (subst (λ (n : ℕ). ReadSoFar bytes c.args.offset n buffer) total so_far) (omega (arith, room)) (subst (λ (b : List ℕ). length b ≤ c.args.offset + count) same (part.end none))

pub loop-count-preserved : goal.loop-count-preserved
loop-count-preserved g c =
    let count = c.loop-count.count in
    let more = c.in_ok-more.more in
    let k = length c.loop-count.buffer - count in
    record {
      within = room_more count more k c.loop-count.buffer c.read_part.new.buffer c.loop-count.invariant.within c.in_ok-more.ensures.within;
      bytes = λ p bytes stands file.
          let part = c.in_ok-more.ensures.bytes p stands in
          let same = same_bytes (g.D.Disk.tree c.args.disk.now p) part.bytes bytes part.stands file in
          read_more bytes c.args.offset count more k c.loop-count.buffer c.read_part.new.buffer (c.loop-count.invariant.bytes p bytes stands file) c.loop-count.invariant.within c.in_ok-more.ensures.within
          (subst (λ (b : List ℕ). take more c.read_part.new.buffer ≡ take more (drop (c.args.offset + count) b)) same part.read)
          (subst (λ (b : List ℕ). more ≤ length (drop (c.args.offset + count) b)) same part.held);
    }
