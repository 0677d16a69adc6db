-- The M_SETOPTS is alone in hand.
use Rattle.strm_pair.proofs.Prelude.{ℕ, ◌≡◌, ◌≤◌, false, List, [], ◌∷◌, refl, ap, subst, ◌∙◌, arith, None}
use Rattle.strm_pair.specs.Prelude.{Side, Carried, is_data_kind, mode_message, head_above, spare, most_of, State, in_hand, token, message_of}
use Rattle.strm_pair.specs.Prelude.{StoreValue}
use Rattle.strm_types.specs.declared.kinds.MsgKind.TheVariants.{Setopts}
use Rattle.strm_pair.specs.Pairs.{state_in}
use Rattle.strm_pair.specs.Effects.{Leads}
use Rattle.strm_pair.proofs.Modes.{mode-delivered}
use Rattle.strm_pair.proofs.InHand.{made-alone, made-leads}
use Rattle.strm_pair.proofs.PlaceCosts.{may-by}
use Rattle.strm_frame.proofs.WidePools.{wide-on}
use Rattle.strm_pair.proofs.streams.Streams.put_mode.Goals as goal

pub make-message-requires-clause-kind : goal.make-message-requires-clause-kind
unfolding is_data_kind
make-message-requires-clause-kind g c = refl

pub deliver_alone-requires-clause-alone : goal.deliver_alone-requires-clause-alone
deliver_alone-requires-clause-alone g c =
    let made = c.make-message.ensures in
    made-alone (g.B.Blocks.value c.args.store.now) (g.B.Blocks.value c.make-message.new.store) c.args.self.now c.requires.rests (token c.make-message.result) made.after made.chain

-- at a head it takes none
mode-free : (side : Side) (bytes : List ℕ) → most_of {C = ℕ} (head_above side) (record { kind = Setopts; band = 0; control = None; body = None; plain = bytes }) ≤ 0
mode-free side bytes = omega arith

pub deliver_alone-requires-clause-room : goal.deliver_alone-requires-clause-room
deliver_alone-requires-clause-room g c =
    let made = g.B.Blocks.value c.make-message.new.store in
    let bytes = c.mode_number.result ∷ 0 ∷ [] in
    may-by made (spare (state_in made c.args.self.now)) (head_above c.args.side) (message_of (in_hand made (token c.make-message.result))) (record { kind = Setopts; band = 0; control = None; body = None; plain = bytes }) 0
    c.make-message.ensures.shows (mode-free c.args.side bytes) (record { mblks = omega arith; dblks = omega arith }) (omega arith)

pub returns : goal.returns
returns g c =
    let K = g.M.Behaves.does in
    let s = g.B.Blocks.value c.args.store.now in
    let made = g.B.Blocks.value c.make-message.new.store in
    let t = g.B.Blocks.value c.deliver_alone.new.store in
    let p = c.args.self.now in
    let q = c.deliver_alone.new.self in
    let i = token c.make-message.result in
    let m = message_of (in_hand made i) in
    let shown : m ≡ mode_message c.in-Some.mode false = c.make-message.ensures.shows ∙ ap (λ (n : ℕ). record { kind = Setopts; band = 0; control = None; body = None; plain = n ∷ 0 ∷ [] }) c.mode_number.ensures in
    rw c.in-Some.is
    (subst (λ (o : Carried ℕ (State ℕ)). Leads s t q c.args.told.now c.deliver_alone.new.told o.state o.gone) (mode-delivered K c.args.side c.in-Some.mode (state_in s p))
    (made-leads s made p c.requires.rests i c.make-message.ensures.after K t q c.args.told.now c.deliver_alone.new.told (head_above c.args.side) (mode_message c.in-Some.mode false) shown c.deliver_alone.ensures.leads))

pub deliver_alone-requires-clause-wide : goal.deliver_alone-requires-clause-wide
deliver_alone-requires-clause-wide g c =
    let after = c.make-message.ensures.after in
    let s = g.B.Blocks.value c.args.store.now in
    let t = g.B.Blocks.value c.make-message.new.store in
    wide-on g.M.OwnModule.wide s t (ap (λ (v : StoreValue). v.mblks) after) (ap (λ (v : StoreValue). v.dblks) after) c.requires.wide
