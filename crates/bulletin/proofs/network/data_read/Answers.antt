use mathlib.Core.Path.{refl}
use Rattle.lists.proofs.Starts.{wrote_none, wrote_start}
use Rattle.bulletin.specs.Network.{data_read}
use Rattle.bulletin.proofs.network.data_read.Goals as goal

pub bounds-host-0 : goal.bounds-host-0
unfolding data_read
bounds-host-0 c = c.requires

pub returns : goal.returns
unfolding data_read
returns c =
    rw (c.sends.ensures, c.all.ensures)
    (record {
      met = λ wire. record {
        note = refl;
        given = wrote_start _ _ c.requires;
        sent = wrote_none wire;
        view = refl;
        clean = λ k. record { reader = k.reader; table = k.table };
      };
    })
