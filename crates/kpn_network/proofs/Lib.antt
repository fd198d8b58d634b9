pub mod PortsWithin
