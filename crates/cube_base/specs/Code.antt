-- The word of each code of refusal.
use Rattle.std.specs.Prelude.{ℕ, List, codes}
use Rattle.cube_base.specs.declared.code.Code.{Code}
use Rattle.cube_base.specs.declared.code.Code.TheVariants.{Long, Text, Command, Fields, Id, Node, Measure, Value, Parts, Exists, Missing, Region, Facts, Rows, Undefined, Many, Wide, Name, Order, Policy, Number, Depth, Limit, Cells, Nodes, Cut, Tail, Header}

abbrev pub word_of : Code → List ℕ
word_of Long = codes "long"
word_of Text = codes "text"
word_of Command = codes "command"
word_of Fields = codes "fields"
word_of Id = codes "id"
word_of Node = codes "node"
word_of Measure = codes "measure"
word_of Value = codes "value"
word_of Parts = codes "parts"
word_of Exists = codes "exists"
word_of Missing = codes "missing"
word_of Region = codes "region"
word_of Facts = codes "facts"
word_of Rows = codes "rows"
word_of Undefined = codes "undefined"
word_of Many = codes "many"
word_of Wide = codes "wide"
word_of Name = codes "name"
word_of Order = codes "order"
word_of Policy = codes "policy"
word_of Number = codes "number"
word_of Depth = codes "depth"
word_of Limit = codes "limit"
word_of Cells = codes "cells"
word_of Nodes = codes "nodes"
word_of Cut = codes "cut"
word_of Tail = codes "tail"
word_of Header = codes "header"
