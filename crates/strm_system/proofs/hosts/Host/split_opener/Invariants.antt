use Rattle.std.proofs.Common.{◌≡◌, ◌≤◌, ◌++◌, take, length}
use Rattle.std.specs.Vec.{vec_capacity}
use Rattle.strm_system.specs.Hosts.{all_opening}
use Rattle.strm_system.proofs.hosts.Host.split_opener.Given as goal

abbrev pub invariant-loop-here : goal.invariant-loop-here
invariant-loop-here g l = record {
  front : l.kept.items ++ l.here-iterator.rest.items ≡ l.fn.opener;
  opened : l.new.items ≡ all_opening (take l.system l.self);
  many : length l.kept.items ≡ l.system;
  more : length l.new.items ≡ l.system;
  room : length l.self ≤ vec_capacity l.kept;
  space : length l.self ≤ vec_capacity l.new;
}
