use Rattle.strm_pair.proofs.streams.Streams.+send_chunks.Given as goal

abbrev pub decreases-send_chunks : goal.decreases-send_chunks
decreases-send_chunks g l = l.chunks
