use Rattle.std.proofs.Common.{ℕ, refl, sym, ap, ◌∙◌, subst, arith, length, [], ◌∷◌}
use Rattle.std.specs.Prelude.{Option, option_map}
use Rattle.strm_blocks.specs.Blocks.{StoreValue, token, in_hand, held, changed}
use Rattle.strm_blocks.specs.Outcomes.{Unlinked}
use Rattle.strm_raw.specs.Numbered.{Nodes, Row, msg_number}
use Rattle.strm_raw.specs.declared.msg_nodes.MsgLink.{MsgLink}
use Rattle.strm_raw.specs.Raw.{value_of, rest_of, msg_in, with_in, alone, chain_of, block_no}
use Rattle.strm_raw.proofs.Finding as finding
use Rattle.strm_raw.proofs.Parting as parting
use Rattle.strm_raw.proofs.Becoming.{Becomes, row-becomes}
use Rattle.strm_raw.specs.Wiped.{AreWiped}
use Rattle.strm_raw.proofs.store.RawStoreBlocks.unlink.Goals as goal
use Rattle.strm_raw.proofs.store.RawStoreBlocks.unlink.Goals.{After-note}

pub message_link-at-requires : goal.message_link-at-requires
message_link-at-requires c = finding.token-below c.self.invariant.raw _ c.self.view_is (token c.args.message) _ c.name.ensures c.requires

pub returns-in_default : goal.returns-in_default
returns-in_default c =
    let l = c.message_link-at.result in let n = token c.args.message in let e = c.message_link-at.ensures.number ∙ c.name.ensures in let mat = c.self.inside.memory.mat in
    let here = finding.here-by c.self.inside.memory c.self.inside.ledger.roster _ c.self.view_is l n _ c.message_link-at.ensures.there c.message_link-at.ensures.number c.name.ensures c.requires in
    let none = sym (ap (λ (r : Row). r.next) c.message-node.ensures.row) ∙ ap (λ (o : Option MsgLink). option_map (msg_number mat) o) c.in_default.is in
    let single = parting.last-single c.self.invariant.raw l here none in
    record { kept_name = refl; single = ap (λ (s : StoreValue). length (in_hand s n)) (sym c.self.view_is) ∙ ap (λ k. length (in_hand (value_of c.self.inside.memory c.self.inside.ledger.roster) k)) (sym e) ∙ single; same = refl }

-- the rest is a new message
done : (c : After-note) → let t = c.self.inside in let s = c.args.self.now in let n = token c.args.message in let j = msg_number t.memory.mat c.in-Some.rest in
    (s' : StoreValue) × (Becomes c.set_next.new.self t.ends c.note.new.self.roster t.free_msg t.free_data t.spare_m t.spare_d s' × Unlinked s s' n n j)
done c =
    let t = c.self.inside in let v = t.memory in let b = t.ledger.roster in let is = c.self.invariant.raw in let l = c.message_link-at.result in let n = token c.args.message in let e = c.message_link-at.ensures.number ∙ c.name.ensures in
    let here = finding.here-by c.self.inside.memory c.self.inside.ledger.roster _ c.self.view_is l n _ c.message_link-at.ensures.there c.message_link-at.ensures.number c.name.ensures c.requires in
    let more = sym (ap (λ (r : Row). r.next) c.message-node.ensures.row) ∙ ap (λ (o : Option MsgLink). option_map (msg_number v.mat) o) c.in-Some.is in
    let memory = c.set_next.ensures in
    let roster = c.note.ensures ∙ ap (λ mat. let i = msg_number mat l in record b { hand = rest_of (msg_in i b.hand) ∷ with_in i (alone i) b.hand }) is.same in
    let S = held (changed (value_of v b) (msg_number v.mat l) (block_no v (msg_number v.mat l) ∷ [])) (msg_number v.mat c.in-Some.rest) (chain_of v (rest_of (msg_in (msg_number v.mat l) b.hand))) in (
      S,
      (
        row-becomes c.self.invariant.listed _ _ _ _ memory roster (parting.parted-raw is l here _ more) refl (msg_number v.mat l) (here.0).0 _ refl refl refl refl _ (parting.parted-value is l here _ more) refl,
        subst (λ (x : StoreValue × ℕ). Unlinked x.0 S x.1 x.1 (msg_number v.mat c.in-Some.rest)) (λ j. (c.self.view_is j, e j)) (record {
          kept_name = refl;
          fresh_name = parting.parted-fresh is l here _ more;
          block = block_no v (msg_number v.mat l);
          chain = chain_of v (rest_of (msg_in (msg_number v.mat l) b.hand));
          more = omega arith;
          joined = parting.parted-shape is l here _ more;
          after = refl;
        }),
      ),
    )

pub invariant_of-self : goal.invariant_of-self
invariant_of-self c = let d = done (goal.at.invariant_of-self c).After-note in record { raw = d.1.0.raw; wiped = subst AreWiped (sym (ap (λ (w : Nodes). w.datas) c.set_next.ensures)) c.self.invariant.wiped; listed = d.1.0.listed }

pub returns : goal.returns
returns c =
    let d = done (goal.at.returns c).After-note in
    subst (λ (x : StoreValue × ℕ). Unlinked c.args.self.now x.0 (token c.args.message) (token c.args.message) x.1) (λ j. (sym d.1.0.value j, sym (c.of.ensures ∙ c.message-name.ensures.name) j)) d.1.1
