-- What is told of a fault.
use Rattle.std.specs.Prelude.{◌≡◌, ℕ, ◌⊎◌, List, [], ◌++◌, take, drop, codes, decimal}
use Rattle.hox_formula.specs.declared.fault.Expected.{Expected}
use Rattle.hox_formula.specs.declared.fault.Expected.TheVariants as needs
use Rattle.hox_formula.specs.declared.fault.Wrong.{Wrong}
use Rattle.hox_formula.specs.declared.fault.Wrong.TheVariants.{UnknownName, NotAssigned, AssignsInput, StrangeCharacter, NumberTooLarge, Gap, TooManyWords, TooManyDigits, TooDeep, TooLong, NoPort, GivenTwice, Memory}
use Rattle.hox_formula.specs.declared.fault.Wrong.TheVariants as wrong
use Rattle.hox_formula.specs.declared.fault.FormulaFault.{FormulaFault}

abbrev pub needed : Expected → List ℕ
needed needs.Operand = codes "a number, a name or \"(\""
needed needs.Open = codes "\"(\""
needed needs.Close = codes "\")\""
needed needs.Comma = codes "\",\""
needed needs.Colon = codes "\":\" and what holds else"
needed needs.Target = codes "a state or an output to assign"
needed needs.Assign = codes "\"=\""
needed needs.Number = codes "a number"
needed needs.Semicolon = codes "an operator, \";\" or the end"

-- the line, given the part of the text that the fault is about
abbrev pub line_of : Wrong → List ℕ → List ℕ
line_of UnknownName part = codes "unknown name \"" ++ part ++ codes "\"; states are assigned"
line_of NotAssigned part = codes "output \"" ++ part ++ codes "\" is never assigned"
line_of AssignsInput part = codes "\"" ++ part ++ codes "\" is an input, which isn't assigned"
line_of (wrong.Expected e) part = codes "expected " ++ needed e
line_of StrangeCharacter part = codes "unexpected character"
line_of NumberTooLarge part = codes "number of 2^64 or more"
line_of Gap part = codes "inputs and outputs are used from 0 on, without gaps"
line_of (TooManyWords by) part = codes "too many states, inputs and outputs, by " ++ decimal by
line_of (TooManyDigits by) part = codes "too many digits in the program, by " ++ decimal by
line_of TooDeep part = codes "nested more than 60 deep"
line_of TooLong part = codes "longer than 1000 bytes"
line_of NoPort part = codes "neither inputs nor outputs"
line_of GivenTwice part = codes "a start value stands in the first assignment alone"
line_of Memory part = codes "out of memory"

-- the part of the text, or nothing where that is no text by itself
abbrev pub IsPart : List ℕ → FormulaFault → List ℕ → Type 0
IsPart text fault part = (part ≡ []) ⊎ (part ≡ take fault.length (drop fault.at text))

-- the line tells the fault
abbrev pub Tells : List ℕ → FormulaFault → List ℕ → Type 0
Tells text fault line = (part : List ℕ) × IsPart text fault part × (line ≡ line_of fault.what part)
