-- The network that parts make.
use Rattle.kpn_model.specs.Network.{Network}
use Rattle.kpn_network.specs.declared.net.Parts.{Parts}

abbrev pub network_of : Parts → Network
network_of p =
    record {
      processes = p.processes.items;
      channels = p.channels.items;
      budget = p.budget;
      step = p.step;
      ceiling = p.ceiling;
    }
