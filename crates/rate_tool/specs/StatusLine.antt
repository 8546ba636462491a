-- The exit code of a status, and the line that is written of it.
use Rattle.std.specs.Prelude.{ℕ, Bool, if◌then◌else◌, List, [], ◌++◌, codes, decimal}
use Rattle.frac128.specs.Rational.{ℚ}
use Rattle.frac128.specs.declared.frac.Overflow.{Overflow}
use Rattle.frac128.specs.Frac.{fraction_text}
use Rattle.model_core.specs.declared.fault.ReadFault.{ReadFault}
use Rattle.model_core.specs.declared.fault.ReadKind.{ReadKind}
use Rattle.model_core.specs.declared.fault.ReadKind.TheVariants as kind
use Rattle.model_core.specs.declared.fault.Part.{Part}
use Rattle.model_core.specs.declared.fault.Part.TheVariants as part
use Rattle.model_core.specs.declared.leg.Leg.{Leg}
use Rattle.gauge_check.specs.declared.fault.TermFault.{TermFault}
use Rattle.gauge_check.specs.declared.fault.TermFault.TheVariants.{NotInvariant, NotHermitian, Dependent}
use Rattle.anomaly_check.specs.declared.anomaly.AnomalyKind.{AnomalyKind}
use Rattle.anomaly_check.specs.declared.anomaly.AnomalyKind.TheVariants as anomaly
use Rattle.anomaly_check.specs.declared.anomaly.Anomaly.{Anomaly}
use Rattle.print_beta.specs.ComponentText.{component_text}
use Rattle.print_beta.specs.Text.{entry_text}
use Rattle.rate_tool.specs.declared.status.Status.{Status}
use Rattle.rate_tool.specs.declared.status.Status.TheVariants as status

-- the exit code
abbrev pub code_of : Status → ℕ
code_of status.Done = 0
code_of status.NoMemory = 1
code_of status.Usage = 2
code_of status.ReadFault = 3
code_of status.TooLong = 4
code_of (status.Malformed fault) = 5
code_of (status.BadTerm fault) = 6
code_of (status.Anomalous found) = 7
code_of (status.Overflow pair) = 8
code_of status.NoSuch = 9
code_of status.Full = 10
code_of status.KeeperFault = 11
code_of status.WriteFault = 12

-- the name of a kind of fault, as the type has it
abbrev pub kind_text : ReadKind → List ℕ
kind_text kind.NotToml = codes "NotToml"
kind_text kind.UnknownKey = codes "UnknownKey"
kind_text kind.MissingKey = codes "MissingKey"
kind_text kind.WrongType = codes "WrongType"
kind_text kind.BadName = codes "BadName"
kind_text kind.RepeatedName = codes "RepeatedName"
kind_text kind.BadNumber = codes "BadNumber"
kind_text kind.BadGroup = codes "BadGroup"
kind_text kind.SecondAbelian = codes "SecondAbelian"
kind_text kind.BadRep = codes "BadRep"
kind_text kind.BadRealScalar = codes "BadRealScalar"
kind_text kind.BadTermText = codes "BadTermText"
kind_text kind.UnknownField = codes "UnknownField"
kind_text kind.WrongSlots = codes "WrongSlots"
kind_text kind.LabelCount = codes "LabelCount"
kind_text kind.WrongContent = codes "WrongContent"
kind_text kind.OverLimit = codes "OverLimit"

-- the name of a part, in lower case
abbrev pub part_text : Part → List ℕ
part_text part.File = codes "file"
part_text part.Group = codes "group"
part_text part.Fermion = codes "fermion"
part_text part.Scalar = codes "scalar"
part_text part.Table = codes "table"
part_text part.Term = codes "term"

-- the three numbers of a fault: `INDEX AT COUNT`
abbrev pub numbers_text : ReadFault → List ℕ
numbers_text fault = decimal fault.index ++ codes " " ++ decimal fault.at ++ codes " " ++ decimal fault.count

-- `malformed KIND PART INDEX AT COUNT`
abbrev pub fault_text : ReadFault → List ℕ
fault_text fault = codes "malformed " ++ kind_text fault.kind ++ codes " " ++ part_text fault.part ++ codes " " ++ numbers_text fault ++ codes "\n"

-- `term T COUPLING`
abbrev pub head_text : ℕ → List ℕ → List ℕ
head_text term coupling = codes "term " ++ decimal term ++ codes " " ++ coupling

-- ` not invariant under GROUP I J`
abbrev pub generator_text : List ℕ → ℕ → ℕ → List ℕ
generator_text group i j = codes " not invariant under " ++ group ++ codes " " ++ decimal i ++ codes " " ++ decimal j

-- ` at COMPONENT value VALUE`
abbrev pub change_text : List Leg → ℚ → List ℕ
change_text component value = codes " at " ++ component_text component ++ codes " value " ++ fraction_text value ++ codes "\n"

-- the symbol of a coupling, `conj(symbol)` for the conjugate
abbrev pub coupling_text : List ℕ → Bool → ℕ → ℕ → List ℕ
coupling_text coupling conj row column =
    if conj then codes "conj(" ++ coupling ++ entry_text row column ++ codes ")" else coupling ++ entry_text row column

-- `term T COUPLING not invariant under GROUP I J at COMPONENT value VALUE`, `term T COUPLING not hermitian at COMPONENT`, or
-- `term T COUPLING dependent SYMBOL`
abbrev pub term_text : TermFault → List ℕ
term_text (NotInvariant term coupling group i j component value) =
    head_text term coupling ++ generator_text group i j ++ change_text component value
term_text (NotHermitian term coupling component) = head_text term coupling ++ codes " not hermitian at " ++ component_text component ++ codes "\n"
term_text (Dependent term coupling symbol row column) =
    head_text term coupling ++ codes " dependent " ++ coupling_text coupling symbol.conj row column ++ codes "\n"

-- the name of a kind of anomaly, as the type has it
abbrev pub anomaly_kind_text : AnomalyKind → List ℕ
anomaly_kind_text anomaly.Cubic = codes "Cubic"
anomaly_kind_text anomaly.Global = codes "Global"
anomaly_kind_text anomaly.Mixed = codes "Mixed"
anomaly_kind_text anomaly.Gravity = codes "Gravity"
anomaly_kind_text anomaly.Abelian = codes "Abelian"

-- `anomalous KIND GROUP TRACE`
abbrev pub anomaly_text : Anomaly → List ℕ
anomaly_text found = codes "anomalous " ++ anomaly_kind_text found.kind ++ codes " " ++ found.group ++ codes " " ++ fraction_text found.trace ++ codes "\n"

-- `overflow A B`, both as `p` or `p/q`
abbrev pub overflow_text : Overflow → List ℕ
overflow_text pair = codes "overflow " ++ fraction_text pair.a ++ codes " " ++ fraction_text pair.b ++ codes "\n"

-- the line of a status, none for `Done`
abbrev pub status_text : Status → List ℕ
status_text status.Done = []
status_text status.NoMemory = codes "no memory\n"
status_text status.Usage = codes "usage\n"
status_text status.ReadFault = codes "read fault\n"
status_text status.TooLong = codes "too long\n"
status_text (status.Malformed fault) = fault_text fault
status_text (status.BadTerm fault) = term_text fault
status_text (status.Anomalous found) = anomaly_text found
status_text (status.Overflow pair) = overflow_text pair
status_text status.NoSuch = codes "no such\n"
status_text status.Full = codes "full\n"
status_text status.KeeperFault = codes "keeper fault\n"
status_text status.WriteFault = codes "write fault\n"
