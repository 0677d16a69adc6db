-- What a link that is written leaves of a list's steps.
use Rattle.std.proofs.Common.{ℕ, ◌≡◌, ◌≢◌, ◌<◌, List, length, refl, sym, ap, ◌∙◌, subst}
use Rattle.std.proofs.Math.ListN.{set, length-set}
use Rattle.std.specs.Prelude.{Option, None, Some, option_map, MatchOption}
use Rattle.std.proofs.lemmas.List.{get_or-set_same, get_or-set_other}
use denote.RawPtr.{Ptr}
use Rattle.strm_raw.specs.Numbered.{Nodes, Row, row_at, no_row, msg_number, with_row, IsMsgOrNone}
use Rattle.strm_raw.specs.Lists.{lead, plain, Ties}
use Rattle.strm_raw.specs.declared.neighbours.Ends.{Ends}
use Rattle.strm_raw.specs.declared.msg_nodes.MsgLink.{MsgLink}
use Rattle.strm_raw.proofs.Relinking.{row-keeps}

-- A list leads from a place to another one by a link or an end. What else these lead to stays, what the other link and the
-- other end lead to, and the blocks themselves.
pub record Leads (mat : Ptr) (link other : Row → Option ℕ) (end last : Ends → Option MsgLink) (rows rows' : List Row) (e e' : Ends) (a b : Option ℕ) : Type 0 where
  pub len : length rows' ≡ length rows
  pub plain : (i : ℕ) → plain (row_at i rows') ≡ plain (row_at i rows)
  pub at : lead mat (end e') (λ i. link (row_at i rows')) a ≡ b
  pub else : (p : Option ℕ) → p ≢ a → lead mat (end e') (λ i. link (row_at i rows')) p ≡ lead mat (end e) (λ i. link (row_at i rows)) p
  pub same : (p : Option ℕ) → lead mat (last e') (λ i. other (row_at i rows')) p ≡ lead mat (last e) (λ i. other (row_at i rows)) p

-- what is written into the place: the link of a message, or the list's end
abbrev pub Writes : (Option ℕ → Row → Row) → (Option MsgLink → Ends → Ends) → Nodes → Nodes → Ends → Ends → Option MsgLink → Option MsgLink → Type 0
Writes write put v v' e e' from to =
    MatchOption from ((v' ≡ v) × (e' ≡ put to e)) (λ at. (v' ≡ with_row (msg_number v.mat at) (write (option_map (msg_number v.mat) to) (row_at (msg_number v.mat at) v.rows)) v) × (e' ≡ e))

-- for a link and an end, and how each is written
module _ (link other : Row → Option ℕ) (write : Option ℕ → Row → Row) (writes : (o : Option ℕ) (r : Row) → link (write o r) ≡ o) (keeps : (o : Option ℕ) (r : Row) → other (write o r) ≡ other r) (plains : (o : Option ℕ) (r : Row) → plain (write o r) ≡ plain r)
    (end last : Ends → Option MsgLink) (put : Option MsgLink → Ends → Ends) (puts : (o : Option MsgLink) (e : Ends) → end (put o e) ≡ o) (leaves : (o : Option MsgLink) (e : Ends) → last (put o e) ≡ last e) where
  module _ (mat : Ptr) (rows : List Row) (e : Ends) where
    module _ (i : ℕ) (within : i < length rows) (to : Option ℕ) where
      abbrev r : Row
      r = write to (row_at i rows)

      else-node : (p : Option ℕ) → p ≢ Some i → lead mat (end e) (λ j. link (row_at j (set rows i r))) p ≡ lead mat (end e) (λ j. link (row_at j rows)) p
      else-node None apart = refl
      else-node (Some k) apart = ap link (get_or-set_other rows i k r no_row (λ s. apart (ap Some s)))

      same-node : (p : Option ℕ) → lead mat (last e) (λ j. other (row_at j (set rows i r))) p ≡ lead mat (last e) (λ j. other (row_at j rows)) p
      same-node None = refl
      same-node (Some k) = row-keeps other rows i r within (keeps to (row_at i rows)) k

      at-node : Leads mat link other end last rows (set rows i r) e e (Some i) to
      at-node = record {
        len = length-set rows i r;
        plain = row-keeps plain rows i r within (plains to (row_at i rows));
        at = ap link (get_or-set_same rows i r no_row within) ∙ writes to (row_at i rows);
        else = else-node;
        same = same-node;
      }

    module _ (to : Option MsgLink) where
      else-end : (p : Option ℕ) → p ≢ None → lead mat (end (put to e)) (λ j. link (row_at j rows)) p ≡ lead mat (end e) (λ j. link (row_at j rows)) p
      else-end None apart = absurd (apart refl)
      else-end (Some k) apart = refl

      same-end : (p : Option ℕ) → lead mat (last (put to e)) (λ j. other (row_at j rows)) p ≡ lead mat (last e) (λ j. other (row_at j rows)) p
      same-end None = ap (λ o. option_map (msg_number mat) o) (leaves to e)
      same-end (Some k) = refl

      at-end : Leads mat link other end last rows rows e (put to e) None (option_map (msg_number mat) to)
      at-end = record { len = refl; plain = λ i. refl; at = ap (λ o. option_map (msg_number mat) o) (puts to e); else = else-end; same = same-end }

  leads : (v v' : Nodes) (e e' : Ends) (to from : Option MsgLink) → IsMsgOrNone v.mat (length v.rows) from → Writes write put v v' e e' from to → Leads v.mat link other end last v.rows v'.rows e e' (option_map (msg_number v.mat) from) (option_map (msg_number v.mat) to)
  leads v v' e e' to None there h = subst (λ (x : List Row × Ends). Leads v.mat link other end last v.rows x.0 e x.1 None (option_map (msg_number v.mat) to)) (λ j. ((sym h.0 j).rows, sym h.1 j)) (at-end v.mat v.rows e to)
  leads v v' e e' to (Some at) there h = subst (λ (x : List Row × Ends). Leads v.mat link other end last v.rows x.0 e x.1 (Some (msg_number v.mat at)) (option_map (msg_number v.mat) to)) (λ j. ((sym h.0 j).rows, sym h.1 j))
      (at-node v.mat v.rows e (msg_number v.mat at) there.0 (option_map (msg_number v.mat) to))

mat-stays : (write : Option ℕ → Row → Row) (put : Option MsgLink → Ends → Ends) (v v' : Nodes) (e e' : Ends) (to from : Option MsgLink) → Writes write put v v' e e' from to → v'.mat ≡ v.mat
mat-stays write put v v' e e' to None h = ap (λ (w : Nodes). w.mat) h.0
mat-stays write put v v' e e' to (Some at) h = ap (λ (w : Nodes). w.mat) h.0

abbrev aheads : Row → Option ℕ
aheads r = r.ahead

abbrev behinds : Row → Option ℕ
behinds r = r.behind

abbrev firsts : Ends → Option MsgLink
firsts e = e.first

abbrev lasts : Ends → Option MsgLink
lasts e = e.last

abbrev pub set_ahead : Option ℕ → Row → Row
set_ahead o r = record r { ahead = o }

abbrev pub set_behind : Option ℕ → Row → Row
set_behind o r = record r { behind = o }

abbrev pub set_first : Option MsgLink → Ends → Ends
set_first o e = record e { first = o }

abbrev pub set_last : Option MsgLink → Ends → Ends
set_last o e = record e { last = o }

-- on, and then back
both-ways : (mat : Ptr) (rows middle rows' : List Row) (e between e' : Ends) (a b : Option ℕ) → Leads mat aheads behinds firsts lasts rows middle e between a b
    → Leads mat behinds aheads lasts firsts middle rows' between e' b a → Ties mat rows rows' e e' a b
both-ways mat rows middle rows' e between e' a b f g = record {
  len = g.len ∙ f.len;
  plain = λ i. g.plain i ∙ f.plain i;
  on_at = g.same a ∙ f.at;
  back_at = g.at;
  on_else = λ p other. g.same p ∙ f.else p other;
  back_else = λ p other. g.else p other ∙ f.same p;
}

pub ties-by : (v v1 v2 : Nodes) (e e1 e2 : Ends) (before after : Option MsgLink) → IsMsgOrNone v.mat (length v.rows) before → IsMsgOrNone v.mat (length v.rows) after
    → Writes set_ahead set_first v v1 e e1 before after → Writes set_behind set_last v1 v2 e1 e2 after before
    → Ties v.mat v.rows v2.rows e e2 (option_map (msg_number v.mat) before) (option_map (msg_number v.mat) after)
ties-by v v1 v2 e e1 e2 before after there_b there_a f g =
    let first = leads aheads behinds set_ahead (λ o r. refl) (λ o r. refl) (λ o r. refl) firsts lasts set_first (λ o e. refl) (λ o e. refl) v v1 e e1 after before there_b f in
    let mat = mat-stays set_ahead set_first v v1 e e1 after before f in
    let there = subst (λ (x : Ptr × ℕ). IsMsgOrNone x.0 x.1 after) (λ j. (sym mat j, sym first.len j)) there_a in
    let second = leads behinds aheads set_behind (λ o r. refl) (λ o r. refl) (λ o r. refl) lasts firsts set_last (λ o e. refl) (λ o e. refl) v1 v2 e1 e2 before after there g in
    both-ways v.mat v.rows v1.rows v2.rows e e1 e2 _ _ first
    (subst (λ (mat : Ptr). Leads mat behinds aheads lasts firsts v1.rows v2.rows e1 e2 (option_map (msg_number mat) after) (option_map (msg_number mat) before)) mat second)

count-kept : (write : Option ℕ → Row → Row) (put : Option MsgLink → Ends → Ends) → ((o : Option MsgLink) (e : Ends) → (put o e).count ≡ e.count) → (v v' : Nodes) (e e' : Ends) (to from : Option MsgLink) → Writes write put v v' e e' from to → e'.count ≡ e.count
count-kept write put keeps v v' e e' to None h = ap (λ (x : Ends). x.count) h.1 ∙ keeps to e
count-kept write put keeps v v' e e' to (Some at) h = ap (λ (x : Ends). x.count) h.1

pub count-stays : (v v1 v2 : Nodes) (e e1 e2 : Ends) (before after : Option MsgLink) → Writes set_ahead set_first v v1 e e1 before after → Writes set_behind set_last v1 v2 e1 e2 after before → e2.count ≡ e.count
count-stays v v1 v2 e e1 e2 before after f g = count-kept set_behind set_last (λ o e. refl) v1 v2 e1 e2 before after g ∙ count-kept set_ahead set_first (λ o e. refl) v v1 e e1 after before f
