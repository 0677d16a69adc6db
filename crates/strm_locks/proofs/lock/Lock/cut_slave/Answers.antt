use Rattle.std.proofs.Common.{◌-◌, ◌/◌, ◌≡◌, sym, ap, ◌∙◌}
use Rattle.strm_locks.specs.Books.{LockId}
use Rattle.strm_locks.specs.Ends.{Share}
use Rattle.strm_locks.specs.Rules.{Mine}
use Rattle.strm_locks.specs.Shares.{lock_of}
use Rattle.strm_locks.proofs.lock.Lock.cut_slave.Goals as goal

pub returns-clause-first : goal.returns-clause-first
returns-clause-first g c = let i = c.end.inside in let first = c.split_seat-given.ensures.first in
    let made = ap (λ (m : Mine). m.0.made) first.1 in
    let met = ap (λ (m : Mine). m.0.met) first.1 in
    (λ k. let z : Share = record { lock = record { table = first.0.0 k; sizes = ap (λ (m : Mine). m.0.sizes) first.1 k }; caller = i.caller; told = i.told; made = made k; parts = i.parts - i.parts / 2; met = met k } in z)
    ∙ ap (λ (x : Share). let z : Share = record x { parts = x.parts - x.parts / 2 } in z) c.end.view_is

pub returns-clause-second : goal.returns-clause-second
returns-clause-second g c = let second = c.split_seat-given.ensures.second in
    let made = ap (λ (m : Mine). m.0.made) second.1 in
    let met = ap (λ (m : Mine). m.0.met) second.1 in
    let half = ap (λ (x : Share). x.parts / 2) c.end.view_is in
    let lock : lock_of c.split_seat-given.result ≡ c.args.end.now.lock = (λ k. record { table = second.0 k; sizes = (ap (λ (m : Mine). m.0.sizes) second.1 ∙ ap (λ (x : Share). x.lock.sizes) c.end.view_is ∙ ap (λ (l : LockId). l.sizes) c.requires.own) k }) ∙ sym c.requires.own in
    (λ k. let z : Share = record { lock = lock k; caller = (c.of.ensures) k; told = c.nothing.ensures k; made = made k; parts = half k; met = met k } in z)
