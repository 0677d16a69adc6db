-- There are modules of the name, there is room, and none of its name stands there.
use Rattle.strm_pair.proofs.Prelude.{ℕ, ◌≡◌, true, false, length, ap, arith, subst, sym, ◌∙◌, nat_tests, Option}
use Rattle.strm_pair.specs.Prelude.{MODULES, ModuleName, stands, may_stand, named_by, module_name, Stream, stream}
use Rattle.std.proofs.Common.{◌&&◌, not, nat_lt}
use Rattle.strm_pair.specs.Pairs.{state_in}
use Rattle.strm_pair.proofs.Modes.{may-known}
use Rattle.strm_pair.proofs.streams.Streams.may_push.Goals as goal

pub returns-then-module_count-lt-MODULES : goal.returns-then-module_count-lt-MODULES
returns-then-module_count-lt-MODULES g c = λ s.
    let K = g.M.Behaves.does in
    let ms = (stream c.args.side (state_in s c.args.self.now)).modules in
    let kind = c.in-Some.kind in
    let there = c.has.ensures s ∙ ap (λ (t : Stream ℕ). stands module_name kind t.modules) (c.end.ensures.stream s) in
    let many = c.module_count.ensures s ∙ ap (λ (t : Stream ℕ). length t.modules) (c.end.ensures.stream s) in
    let few : nat_lt (length ms) MODULES ≡ true = grind (arith, nat_tests) in
    let known = sym c.is_known.ensures ∙ c.if-is_known.true in
    subst (λ (name : Option ModuleName). not c.has.result ≡ may_stand (named_by K name) ms) (sym c.in-Some.is)
    (ap not there
    ∙ sym (ap (λ b. b && not (stands module_name kind ms)) few)
    ∙ sym (ap (λ b. b && (nat_lt (length ms) MODULES && not (stands module_name kind ms))) known)
    ∙ may-known K kind ms)

pub returns-else-module_count-lt-MODULES : goal.returns-else-module_count-lt-MODULES
returns-else-module_count-lt-MODULES g c = λ s.
    let K = g.M.Behaves.does in
    let ms = (stream c.args.side (state_in s c.args.self.now)).modules in
    let kind = c.in-Some.kind in
    let many = c.module_count.ensures s ∙ ap (λ (t : Stream ℕ). length t.modules) (c.end.ensures.stream s) in
    let full : nat_lt (length ms) MODULES ≡ false = grind (arith, nat_tests) in
    let none : nat_lt c.module_count.result MODULES ≡ false = grind (arith, nat_tests) in
    let known = sym c.is_known.ensures ∙ c.if-is_known.true in
    subst (λ (name : Option ModuleName). nat_lt c.module_count.result MODULES ≡ may_stand (named_by K name) ms) (sym c.in-Some.is)
    (none
    ∙ sym (ap (λ b. b && not (stands module_name kind ms)) full)
    ∙ sym (ap (λ b. b && (nat_lt (length ms) MODULES && not (stands module_name kind ms))) known)
    ∙ may-known K kind ms)

pub returns-else-is_known : goal.returns-else-is_known
returns-else-is_known g c = λ s.
    let K = g.M.Behaves.does in
    let ms = (stream c.args.side (state_in s c.args.self.now)).modules in
    let kind = c.in-Some.kind in
    let unknown = sym c.is_known.ensures ∙ c.if-is_known.false in
    subst (λ (name : Option ModuleName). c.is_known.result ≡ may_stand (named_by K name) ms) (sym c.in-Some.is)
    (c.if-is_known.false ∙ sym (ap (λ b. b && (nat_lt (length ms) MODULES && not (stands module_name kind ms))) unknown) ∙ may-known K kind ms)
