-- What a call leaves that hangs a message in hand behind another one.
use Rattle.std.proofs.Common.{ℕ, ◌≡◌, ◌≢◌, ◌++◌, length, List, refl, sym, ap, ◌∙◌, subst}
use Rattle.std.proofs.Math.ListN.{length-set}
use Rattle.std.specs.Prelude.{Option, Some}
use Rattle.strm_blocks.specs.Blocks.{StoreValue, IsInHand, in_hand, dropped, changed}
use Rattle.strm_raw.specs.Numbered.{Nodes, row_at, msg_number, with_row}
use Rattle.strm_raw.specs.Roster.{Roster}
use Rattle.strm_raw.specs.Raw.{ids, chain_of, value_of, IsRaw, IsHere, IsChain, msg_in, with_in, without_in, joined}
use Rattle.strm_raw.specs.Lists.{AreListed}
use Rattle.strm_raw.specs.Tails.{Hangs}
use Rattle.strm_raw.specs.declared.neighbours.KeptEnds.{KeptEnds}
use Rattle.strm_raw.specs.declared.msg_nodes.MsgLink.{MsgLink}
use Rattle.strm_raw.specs.declared.data_nodes.DataLink.{DataLink}
use Rattle.strm_raw.proofs.Becoming.{Becomes, becomes-as, row-becomes}
use Rattle.strm_raw.proofs.Finding.{found, found-linked, here-by}
use Rattle.strm_raw.proofs.Joining as joining

pub record Hung (v v' : Nodes) (b b' : Roster) (ends : List KeptEnds) (first_m : Option MsgLink) (first_d : Option DataLink) (spare_m spare_d : ℕ) (s : StoreValue) (i j : ℕ) : Type 0 where
  pub becomes : Becomes v' ends b' first_m first_d spare_m spare_d (changed (dropped s j) i (in_hand s i ++ in_hand s j))
  pub lists : b'.lists ≡ b.lists
  pub mat : v'.mat ≡ v.mat
  pub len : length v'.rows ≡ length v.rows
  pub datas : v'.datas ≡ v.datas
  pub chains : chain_of v' ≡ chain_of v

module _ {v v' : Nodes} {b b' : Roster} {ends : List KeptEnds} {first_m : Option MsgLink} {first_d : Option DataLink} {spare_m spare_d : ℕ} (is : IsRaw v first_m first_d spare_m spare_d b) (listed : AreListed v ends b)
    {s : StoreValue} (view : value_of v b ≡ s) (i j : ℕ) (here_i : IsInHand s i) (here_j : IsInHand s j) (apart : i ≢ j) (h : Hangs v v' b b' i j) where
  here : IsHere v b h.head
  here = here-by v b s view h.head i i h.there h.number refl here_i

  here2 : IsHere v b h.next
  here2 = here-by v b s view h.next j j h.there_next h.number_next refl here_j

  apart-links : msg_number v.mat h.head ≢ msg_number v.mat h.next
  apart-links e = apart (sym h.number ∙ e ∙ h.number_next)

  abbrev is_ids : List ℕ
  is_ids = ids (found is h.head here)

  nodes : v' ≡ joining.joined_nodes is h.head here h.next here2 apart-links
  nodes =
      h.nodes is_ids (subst (λ n. IsChain v.rows n is_ids) h.number (found-linked is h.head here)) (joining.few is h.head here h.next here2 apart-links)
      ∙ (λ q. let t = sym (joining.last-is is h.head here h.next here2 apart-links) q in with_row t (record (row_at t v.rows) { next = Some (sym h.number_next q) }) v)

  roster : b' ≡ joining.joined_roster is h.head here h.next here2 apart-links
  roster = h.roster_is ∙ (λ q. let i = msg_number (is.same q) h.head in let j = sym h.number_next q in record b { hand = with_in i (joined (msg_in i b.hand) (msg_in j b.hand)) (without_in j b.hand) })

  chains : chain_of v' ≡ chain_of v
  chains = ap (λ (w : Nodes). chain_of w) nodes ∙ (λ q x. joining.chain-same is h.head here h.next here2 apart-links x q)

  pub hung : Hung v v' b b' ends first_m first_d spare_m spare_d s i j
  hung = record {
    becomes = becomes-as
        (row-becomes listed _ _ _ _ nodes roster (joining.joined-raw is h.head here h.next here2 apart-links) refl (joining.t is h.head here h.next here2 apart-links) (joining.within is h.head here h.next here2 apart-links) _ refl refl refl refl _
        (joining.joined-value is h.head here h.next here2 apart-links) refl)
        (λ q. changed (dropped (view q) (h.number_next q)) (h.number q) (in_hand (view q) (h.number q) ++ in_hand (view q) (h.number_next q)));
    lists = ap (λ (x : Roster). x.lists) roster;
    mat = ap (λ (w : Nodes). w.mat) nodes;
    len = ap (λ (w : Nodes). length w.rows) nodes ∙ length-set v.rows _ _;
    datas = ap (λ (w : Nodes). w.datas) nodes;
    chains = chains;
  }
