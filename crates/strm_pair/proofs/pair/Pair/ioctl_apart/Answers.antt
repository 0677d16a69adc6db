use Rattle.strm_pair.proofs.pair.Pair.ioctl_apart.Goals as goal

pub returns-in-Ioctl : goal.returns-in-Ioctl
returns-in-Ioctl g c = rw c.in-Ioctl.is c.make.ensures
