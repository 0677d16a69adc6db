use Rattle.std.proofs.Common.{arith, ◌≡◌, ◌<◌, ◌∙◌, ◌∷◌, List, ap, length, take, drop}
use Rattle.std.proofs.Math.ListN.{set, length-set}
use Rattle.std.proofs.lemmas.Bool.Decides.{nat_tests}
use Rattle.strm_blocks.specs.Message.{message_at, with_blocks}
use Rattle.strm_blocks.specs.declared.message.Message.{Message}
use Rattle.strm_blocks.specs.declared.message.MessageBlock.{MessageBlock}
use Rattle.strm_blocks.proofs.Found as found
use Rattle.strm_blocks.proofs.Moves.{hand-few}
use Rattle.strm_blocks.proofs.Chains.{whole, unlinked-last, idle-there, unlinked-value, IsTable-unlink}
use Rattle.strm_blocks.proofs.table.TableStoreBlocks.unlink.Goals as goal

pub part_blocks-rest-requires-clause-within : goal.part_blocks-rest-requires-clause-within
part_blocks-rest-requires-clause-within c = let there = found.within c.self.inside c.self.view_is c.args.message.name c.requires in omega arith

pub part_blocks-rest-requires-clause-there : goal.part_blocks-rest-requires-clause-there
part_blocks-rest-requires-clause-there c =
    let there = found.within c.self.inside c.self.view_is c.args.message.name c.requires in
    rw c.place_of-place.ensures (let some = found.some-block c.self.invariant _ there in omega (arith, some))

pub returns-then-is_empty : goal.returns-then-is_empty
returns-then-is_empty c =
    let t = c.self.inside in
    let rest = c.part_blocks-rest.ensures.rest ∙ ap (λ p. drop 1 (message_at p t.hand).blocks) c.place_of-place.ensures in
    let kept = c.part_blocks-rest.ensures.kept ∙ ap (λ p. set t.hand p (with_blocks (take 1 (message_at p t.hand).blocks) (message_at p t.hand))) c.place_of-place.ensures in
    let len = ap (λ (blocks : List MessageBlock). length blocks) rest in
    let none : length (drop 1 (whole t c.self.view_is c.self.invariant c.args.message.name c.requires).blocks) ≡ 0 = grind (arith, nat_tests) in
    unlinked-last t c.self.view_is c.self.invariant c.args.message.name c.requires c.part_blocks-rest.new.list none kept

pub hold-name-requires-clause-some : goal.hold-name-requires-clause-some
hold-name-requires-clause-some c =
    let t = c.self.inside in
    let rest = c.part_blocks-rest.ensures.rest ∙ ap (λ p. drop 1 (message_at p t.hand).blocks) c.place_of-place.ensures in
    let len = ap (λ (blocks : List MessageBlock). length blocks) rest in
    let more : 0 < length (drop 1 (whole t c.self.view_is c.self.invariant c.args.message.name c.requires).blocks) = grind (arith, nat_tests) in
    idle-there t c.self.view_is c.self.invariant c.args.message.name c.requires more

pub hold-name-requires-clause-few : goal.hold-name-requires-clause-few
hold-name-requires-clause-few c =
    let t = c.self.inside in
    let few = hand-few c.self.invariant in
    let len = ap (λ (q : List Message). length q) c.part_blocks-rest.ensures.kept ∙ length-set t.hand c.place_of-place.result _ in
    omega arith

pub invariant_of-self-2 : goal.invariant_of-self-2
invariant_of-self-2 c =
    let t = c.self.inside in
    let rest = c.part_blocks-rest.ensures.rest ∙ ap (λ p. drop 1 (message_at p t.hand).blocks) c.place_of-place.ensures in
    let kept = c.part_blocks-rest.ensures.kept ∙ ap (λ p. set t.hand p (with_blocks (take 1 (message_at p t.hand).blocks) (message_at p t.hand))) c.place_of-place.ensures in
    let len = ap (λ (blocks : List MessageBlock). length blocks) rest in
    let more : 0 < length (drop 1 (whole t c.self.view_is c.self.invariant c.args.message.name c.requires).blocks) = grind (arith, nat_tests) in
    let hand = c.hold-name.ensures.hand ∙ ap (λ blocks. with_blocks blocks (message_at 0 t.idle) ∷ c.part_blocks-rest.new.list) rest ∙ ap (λ (q : List Message). with_blocks (drop 1 (whole t c.self.view_is c.self.invariant c.args.message.name c.requires).blocks) (message_at 0 t.idle) ∷ q) kept in
    rw c.hold-name.ensures.idle (IsTable-unlink t c.self.view_is c.self.invariant c.args.message.name c.requires c.hold-name.new.hand more hand)

pub returns : goal.returns
returns c =
    let t = c.self.inside in
    let rest = c.part_blocks-rest.ensures.rest ∙ ap (λ p. drop 1 (message_at p t.hand).blocks) c.place_of-place.ensures in
    let kept = c.part_blocks-rest.ensures.kept ∙ ap (λ p. set t.hand p (with_blocks (take 1 (message_at p t.hand).blocks) (message_at p t.hand))) c.place_of-place.ensures in
    let len = ap (λ (blocks : List MessageBlock). length blocks) rest in
    let more : 0 < length (drop 1 (whole t c.self.view_is c.self.invariant c.args.message.name c.requires).blocks) = grind (arith, nat_tests) in
    let hand = c.hold-name.ensures.hand ∙ ap (λ blocks. with_blocks blocks (message_at 0 t.idle) ∷ c.part_blocks-rest.new.list) rest ∙ ap (λ (q : List Message). with_blocks (drop 1 (whole t c.self.view_is c.self.invariant c.args.message.name c.requires).blocks) (message_at 0 t.idle) ∷ q) kept in
    unlinked-value t c.self.view_is c.self.invariant c.args.message.name c.requires c.hold-name.new.hand c.hold-name.result more hand c.hold-name.ensures.name
