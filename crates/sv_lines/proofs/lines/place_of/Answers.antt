use Rattle.std.proofs.Common.{◌+◌, ◌-◌, rules, ap}
use Rattle.sv_lines.proofs.Places.{found, IsPlace-lines}
use Rattle.sv_lines.proofs.lines.place_of.Goals as goal

pub overflow_sub-result : goal.overflow_sub-result
overflow_sub-result c =
    (found c.args.lines.now c.as_slice-starts.result.now c.args.at c.partition_point-line.result c.last_start-start.result
    c.as_slice-starts.ensures c.requires c.partition_point-line.ensures.bound c.partition_point-line.ensures.partitioned (λ a r f k. search rules) c.last_start-start.ensures).low

pub returns-clause-line : goal.returns-clause-line
returns-clause-line c =
    (found c.args.lines.now c.as_slice-starts.result.now c.args.at c.partition_point-line.result c.last_start-start.result
    c.as_slice-starts.ensures c.requires c.partition_point-line.ensures.bound c.partition_point-line.ensures.partitioned (λ a r f k. search rules) c.last_start-start.ensures).count

pub returns-clause-column : goal.returns-clause-column
returns-clause-column c =
    ap (λ start. c.args.at - start + 1) (found c.args.lines.now c.as_slice-starts.result.now c.args.at c.partition_point-line.result c.last_start-start.result
    c.as_slice-starts.ensures c.requires c.partition_point-line.ensures.bound c.partition_point-line.ensures.partitioned (λ a r f k. search rules) c.last_start-start.ensures).last

pub returns-clause-in_text : goal.returns-clause-in_text
returns-clause-in_text c bytes is h =
    let f = found c.args.lines.now c.as_slice-starts.result.now c.args.at c.partition_point-line.result c.last_start-start.result
    c.as_slice-starts.ensures c.requires c.partition_point-line.ensures.bound c.partition_point-line.ensures.partitioned (λ a r f k. search rules) c.last_start-start.ensures in
    IsPlace-lines bytes c.args.lines.now c.args.at c.partition_point-line.result c.last_start-start.result f.count f.last is h
