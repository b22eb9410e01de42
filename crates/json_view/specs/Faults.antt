-- What a fault of a view is among the faults of reading.
use Rattle.json_view.specs.declared.fault.ViewFault.{ViewFault}
use Rattle.json_view.specs.declared.fault.ViewFault.TheVariants.{Shape, Number, Memory}
use Rattle.waf_model.specs.declared.read_fault.ReadFault.{ReadFault}
use Rattle.waf_model.specs.declared.read_fault.ReadFault.TheVariants as faults

-- the same fault at the same path
abbrev pub fault_of : ViewFault → ReadFault
fault_of (Shape path) = faults.Shape path
fault_of (Number path) = faults.Number path
fault_of Memory = faults.Memory
