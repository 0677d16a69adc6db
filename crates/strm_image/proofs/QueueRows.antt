-- The texts of queues are exact.
use Rattle.std.proofs.Common.{◌≡◌, Bool, true, false, [], ◌∷◌, Some, refl}
use Rattle.strm_image.specs.declared.versions.QueueKind.{QueueKind}
use Rattle.strm_image.specs.declared.versions.Version.{Version}
use Rattle.strm_image.specs.declared.versions.Version.TheVariants.{First, Second}
use Rattle.strm_image.specs.declared.versions.TheConstants.{FIRST_BANDS}
use Rattle.strm_image.specs.Format.{IsExact, with_code}
use Rattle.strm_image.specs.Messages.{any}
use Rattle.strm_image.specs.Queues.{flow, flags, flags_code, few_flows, flows, first_ones, widened, is_widened, are_bands, spread_out, list_out, entries, queue, queue_of, queue_parts}
use Rattle.strm_image.proofs.BandRows.{entries_exact, listed_made, widened_made}
use Rattle.strm_image.proofs.FlowRows.{flow_exact}
use Rattle.strm_image.proofs.Formats.{coded_exact, times_exact, then_exact, made_exact}
use Rattle.strm_image.proofs.MessageRows.{messages_exact}

flags_listed : (x : Bool × Bool) → with_code flags_code (flags_code x) ((false, false) ∷ (true, false) ∷ (false, true) ∷ (true, true) ∷ []) ≡ Some x
unfolding flags_code
flags_listed (false, false) = refl
flags_listed (true, false) = refl
flags_listed (false, true) = refl
flags_listed (true, true) = refl

pub flags_exact : IsExact flags
unfolding flags
flags_exact = coded_exact flags_code ((false, false) ∷ (true, false) ∷ (false, true) ∷ (true, true) ∷ []) flags_listed

few_flows_exact : IsExact few_flows
unfolding few_flows
few_flows_exact = times_exact FIRST_BANDS flow flow_exact

pub flows_exact : (v : Version) (at : QueueKind) → IsExact (flows v at)
unfolding flows
flows_exact First at = made_exact is_widened widened first_ones few_flows few_flows_exact widened_made
flows_exact Second at = made_exact are_bands (spread_out at) (list_out at) (entries at) (entries_exact at) (listed_made at)

pub queue_exact : (v : Version) (at : QueueKind) → IsExact (queue v at)
unfolding queue
queue_exact v at = made_exact any queue_of queue_parts _ (then_exact _ _ flags_exact (then_exact _ _ (flows_exact v at) (messages_exact v at))) (record { back = λ x fits. (refl, refl); whole = λ y shape. refl })
