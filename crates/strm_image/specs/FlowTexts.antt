-- The flow control of bands in a text, seen as plain values.
use Rattle.std.specs.Prelude.{ℕ, ◌≤◌, List, Option, Some, replicate}
use Rattle.strm_types.specs.declared.limits.TheConstants.{BANDS}
use Rattle.strm_types.specs.Queue as plain
use Rattle.strm_image.specs.declared.flows.Flow.{Flow}
use Rattle.strm_image.specs.declared.versions.QueueKind.{QueueKind}
use Rattle.strm_image.specs.declared.versions.Version.{Version}
use Rattle.strm_image.specs.declared.versions.Version.TheVariants.{First, Second}
use Rattle.strm_image.specs.Format.{◌>>=◌, gather_from}
use Rattle.strm_image.specs.Loads.{set_band}
use Rattle.strm_image.specs.Queues.{few_flows, first_flow, listed_behind, next_band, widened}

abbrev pub flow_now : Flow → plain.Flow
flow_now f = record { high = f.high; low = f.low; want_write = f.want_write }

-- a high-water mark above 0, and a low-water mark that isn't above it
pub record IsMarked (f : Flow) : Type 0 where
  pub some : 1 ≤ f.high
  pub order : f.low ≤ f.high

-- Those of all bands of a queue, behind the number of those that are listed in version 2.
abbrev pub read_flows : Version → QueueKind → ℕ → List ℕ → Option (List plain.Flow × List ℕ)
read_flows First at count text = few_flows.read text >>= λ x. Some (widened x.0, x.1)
read_flows Second at count text = gather_from next_band (listed_behind (first_flow at)) set_band (replicate BANDS (first_flow at)) 0 count text
