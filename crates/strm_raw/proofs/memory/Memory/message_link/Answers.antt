use Rattle.std.proofs.Common.{◌≡◌, ◌<◌, length, sym, ap, subst, ◌∙◌}
use denote.RawPtr.{InBlock}
use Rattle.strm_raw.specs.Links.{place}
use Rattle.strm_raw.specs.MsgNodes as messages
use Rattle.strm_raw.specs.Numbered.{Nodes, IsMsg, msg_number}
use Rattle.strm_raw.proofs.Placed.{place-is, number-is, msg-sized}
use Rattle.strm_raw.proofs.memory.Memory.message_link.Goals as goal

pub returns-clause-there : goal.returns-clause-there
returns-clause-there c =
    let within = subst (λ (v : Nodes). c.args.index < length v.rows) (sym c.self.view_is) c.requires in
    let place = c.place_of.ensures.place ∙ ap (λ p. place messages.node_size p c.args.index) c.as_ptr.ensures in
    subst (λ (v : Nodes). IsMsg v.mat (length v.rows) (record { at = c.place_of.result })) c.self.view_is
    (place-is messages.node_size msg-sized _ c.place_of.result c.args.index _ place (subst InBlock c.as_ptr.ensures c.place_of.ensures.block) within)

pub returns-clause-number : goal.returns-clause-number
returns-clause-number c =
    let within = subst (λ (v : Nodes). c.args.index < length v.rows) (sym c.self.view_is) c.requires in
    let place = c.place_of.ensures.place ∙ ap (λ p. place messages.node_size p c.args.index) c.as_ptr.ensures in
    subst (λ (v : Nodes). msg_number v.mat (record { at = c.place_of.result }) ≡ c.args.index) c.self.view_is
    (number-is messages.node_size msg-sized _ c.place_of.result c.args.index _ place (subst InBlock c.as_ptr.ensures c.place_of.ensures.block) within)
