-- How many blocks ptem may take of an M_IOCTL that may be answered, by the way that it goes.
use Rattle.strm_pty.proofs.Prelude.{ℕ, ◌≡◌, true, ap, ◌∙◌}
use Rattle.strm_pty.specs.Prelude.{Way, Up, Down, Spot, own_at, is_asked, Message, ptem_does}
use Rattle.strm_types.specs.Shapes.{Shape, shape_of}
use Rattle.strm_types.proofs.ShapesOf.{asked-shape}

module _ (here : Spot) (m : Message ℕ) (asked : is_asked m ≡ true) where
  pub above-own : here.way ≡ Down → own_at ptem_does here m ≡ 3
  above-own way = ap (λ (w : Way). (ptem_does w (shape_of m)).own) way ∙ ap (λ (s : Shape). (ptem_does Down s).own) (asked-shape m asked)

  pub below-own : here.way ≡ Up → own_at ptem_does here m ≡ 2
  below-own way = ap (λ (w : Way). (ptem_does w (shape_of m)).own) way ∙ ap (λ (s : Shape). (ptem_does Up s).own) (asked-shape m asked)
