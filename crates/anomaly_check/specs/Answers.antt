-- What the check of anomalies answers.
use Rattle.std.specs.Prelude.{◌≡◌, ⊤, true, false, List, [], ◌∷◌, Result, Ok, Err}
use Rattle.beta_poly.specs.Refusals.{IsRefusedPair}
use Rattle.model_core.specs.declared.model.Model.{Model}
use Rattle.model_core.specs.Plain.{IsPlain}
use Rattle.model_core.specs.Anomaly.{TraceKind, Trace, is_bad}
use Rattle.model_core.specs.Anomaly.TraceKind.{Cubic, Global, Mixed, Gravity, Abelian}
use Rattle.anomaly_check.specs.declared.anomaly.AnomalyKind.{AnomalyKind}
use Rattle.anomaly_check.specs.declared.anomaly.AnomalyKind.TheVariants as kind
use Rattle.anomaly_check.specs.declared.anomaly.Anomaly.{Anomaly}
use Rattle.anomaly_check.specs.declared.anomaly.AnomalyError.{AnomalyError}
use Rattle.anomaly_check.specs.declared.anomaly.AnomalyError.TheVariants.{Bad, Overflow}

-- a trace as it is answered
abbrev pub kind_of : TraceKind → AnomalyKind
kind_of Cubic = kind.Cubic
kind_of Global = kind.Global
kind_of Mixed = kind.Mixed
kind_of Gravity = kind.Gravity
kind_of Abelian = kind.Abelian

-- and the other way round
abbrev pub trace_kind : AnomalyKind → TraceKind
trace_kind kind.Cubic = Cubic
trace_kind kind.Global = Global
trace_kind kind.Mixed = Mixed
trace_kind kind.Gravity = Gravity
trace_kind kind.Abelian = Abelian

abbrev pub anomaly_of : Trace → Anomaly
anomaly_of t = record { kind = kind_of t.kind; group = t.group.name; trace = t.value }

-- the anomaly is the first of the bad traces
abbrev pub IsFirstOf : List Trace → Anomaly → Type 0
IsFirstOf [] anomaly = ⊥
IsFirstOf (t ∷ ts) anomaly = anomaly ≡ anomaly_of t

-- Nothing is answered where no trace is bad, and else the first bad one. Where a sum or a product is refused, the model is not
-- plain.
abbrev pub Answers : Model → List Trace → Result ⊤ AnomalyError → Type 0
Answers model bad (Ok nothing) = bad ≡ []
Answers model bad (Err (Bad anomaly)) = IsFirstOf bad anomaly
Answers model bad (Err (Overflow pair)) = IsRefusedPair pair.a pair.b × (¬ IsPlain model)

-- what is answered of one trace
abbrev pub AnswersOne : Trace → Result ⊤ AnomalyError → Type 0
AnswersOne trace (Ok nothing) = is_bad trace ≡ false
AnswersOne trace (Err (Bad anomaly)) = (is_bad trace ≡ true) × (anomaly ≡ anomaly_of trace)
AnswersOne trace (Err (Overflow pair)) = ⊥
