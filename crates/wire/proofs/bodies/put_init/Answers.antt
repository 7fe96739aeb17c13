use Rattle.std.proofs.Common.{◌<◌, ◌^◌, arith, lit<}
use Rattle.wire.proofs.bodies.put_init.Goals as goal

pub returns-clause-tells : goal.returns-clause-tells
returns-clause-tells c =
    let i = c.args.i.now in
    let major : i.major < 2 ^ 32 = omega arith in
    let minor : i.minor < 2 ^ 32 = omega arith in
    let readahead : i.max_readahead < 2 ^ 32 = omega arith in
    let flags : i.flags < 2 ^ 32 = omega arith in
    let background : i.max_background < 2 ^ 16 = omega arith in
    let threshold : i.congestion_threshold < 2 ^ 16 = omega arith in
    let write : i.max_write < 2 ^ 32 = omega arith in
    let gran : i.time_gran < 2 ^ 32 = omega arith in
    let pages : i.max_pages < 2 ^ 16 = omega arith in
    (major, (minor, (readahead, (flags, (background, (threshold, (write, (gran, (pages, (lit< tt, (lit< tt, (lit< tt, (lit< tt, (lit< tt, (lit< tt, (lit< tt, (lit< tt, (lit< tt, tt))))))))))))))))))
