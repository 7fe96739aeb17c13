use Rattle.std.proofs.Common.{◌≤◌, length, sym, subst, arith}
use Rattle.engine.specs.Links.{Heard}
use Rattle.engine.proofs.Behind.{front_left, heard_behind}
use Rattle.engine_turns.proofs.reader.receive_between.Goals as goal

pub returns-clause-brought : goal.returns-clause-brought
returns-clause-brought g c =
    let inside : c.args.from ≤ length c.args.room.now = omega (arith, c.requires.order, c.requires.within) in
    subst (λ (h : Heard). g.L.LinkIn.receives c.args.link.now h c.receive.new.self) (sym (heard_behind c.args.room.now c.receive.new.room c.args.from _ inside c.receive.result c.receive.ensures.within)) c.receive.ensures.brought

pub returns-clause-front : goal.returns-clause-front
returns-clause-front g c =
    let inside : c.args.from ≤ length c.args.room.now = omega (arith, c.requires.order, c.requires.within) in
    front_left c.args.room.now c.receive.new.room c.args.from _ inside
